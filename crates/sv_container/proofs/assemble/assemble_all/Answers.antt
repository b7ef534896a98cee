use Rattle.sv_container.proofs.Prelude.{◌∙◌, ◌≤◌, ◌<◌, length, into_iter_items, app_of, apps_of, frame_of, identities_of}
use Rattle.sv_container.proofs.AssembleLemmas.{all_able, all_planned, all_sound, identities_left, new_dropped, one_more_assembled}
use Rattle.sv_container.proofs.assemble.assemble_all.Goals as goal

pub loop-at-preserved : goal.loop-at-preserved
loop-at-preserved g c =
    let h : c.loop-at.at < length c.args.applications.now.items = rw c.args.applications.now.ok.0 at (rw c.len-at-end.ensures at c.loop-at-test.true) in
    let frame = frame_of c.index_mut.result.now in
    record {
      apps = one_more_assembled (app_of g.S.Servlet g.F.Filter)
          c.args.applications.now.items c.loop-at.applications.items c.loop-at.at
          (identities_of g.S.Servlet.serves (into_iter_items c.loop-at.servlets)) (identities_of g.S.Servlet.serves c.args.servlets.items) (identities_of g.S.Servlet.serves (into_iter_items c.assemble.new.servlets))
          (identities_of g.F.Filter.filtering (into_iter_items c.loop-at.filters)) (identities_of g.F.Filter.filtering c.args.filters.items) (identities_of g.F.Filter.filtering (into_iter_items c.assemble.new.filters))
          c.index_mut.result.now c.assemble.new.self c.loop-at.invariant.apps h c.index_mut.ensures.value c.assemble.ensures.sound c.assemble.ensures.service c.assemble.ensures.plan
          (identities_left g.S.Servlet.serves g.S.Servlet.servlet_phase frame.servlets (into_iter_items c.loop-at.servlets) (into_iter_items c.assemble.new.servlets) c.assemble.ensures.servlets)
          (identities_left g.F.Filter.filtering g.F.Filter.filter_phase frame.filters (into_iter_items c.loop-at.filters) (into_iter_items c.assemble.new.filters) c.assemble.ensures.filters);
      servlets = new_dropped g.S.Servlet.serves g.S.Servlet.servlet_phase frame.servlets (into_iter_items c.loop-at.servlets) (into_iter_items c.assemble.new.servlets) c.assemble.ensures.servlets c.loop-at.invariant.servlets;
      filters = new_dropped g.F.Filter.filtering g.F.Filter.filter_phase frame.filters (into_iter_items c.loop-at.filters) (into_iter_items c.assemble.new.filters) c.assemble.ensures.filters c.loop-at.invariant.filters;
      ears = c.announce.ensures.same ∙ c.loop-at.invariant.ears;
    }

pub returns-clause-sound : goal.returns-clause-sound
unfolding apps_of
returns-clause-sound g c =
    let end : length c.args.applications.now.items ≤ c.loop-at.at = rw c.args.applications.now.ok.0 at (rw c.len-at-end.ensures at c.loop-at-test.false) in
    all_sound (app_of g.S.Servlet g.F.Filter) c.args.applications.now.items c.loop-at.applications.items c.loop-at.at _ _ _ _ c.loop-at.invariant.apps end

pub returns-clause-service : goal.returns-clause-service
unfolding apps_of
returns-clause-service g c =
    let end : length c.args.applications.now.items ≤ c.loop-at.at = rw c.args.applications.now.ok.0 at (rw c.len-at-end.ensures at c.loop-at-test.false) in
    all_able (app_of g.S.Servlet g.F.Filter) c.args.applications.now.items c.loop-at.applications.items c.loop-at.at _ _ _ _ c.loop-at.invariant.apps end

pub returns-clause-plans : goal.returns-clause-plans
unfolding apps_of
returns-clause-plans g c =
    let end : length c.args.applications.now.items ≤ c.loop-at.at = rw c.args.applications.now.ok.0 at (rw c.len-at-end.ensures at c.loop-at-test.false) in
    all_planned (app_of g.S.Servlet g.F.Filter) c.args.applications.now.items c.loop-at.applications.items c.loop-at.at _ _ _ _ c.loop-at.invariant.apps end
