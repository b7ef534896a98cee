use Rattle.sv_container.proofs.Prelude.{◌≡◌, ◌∙◌, map, take, vec_capacity, into_iter_items, rows, identity_of, frame_of, identities_of, plan_with}
use Rattle.sv_container.proofs.AssembleLemmas.{identities_filled, new_taken}
use Rattle.sv_container.proofs.application.Application.assemble.Goals as goal

pub launch-requires-clause-servlets : goal.launch-requires-clause-servlets
launch-requires-clause-servlets g c =
    new_taken g.S.Servlet.serves g.S.Servlet.servlet_phase (vec_capacity c.args.self.now.stage.servlets) (into_iter_items c.args.servlets.now) c.fill.new.room.items c.fill.ensures.items c.requires.servlets

pub launch-requires-clause-filters : goal.launch-requires-clause-filters
launch-requires-clause-filters g c =
    new_taken g.F.Filter.filtering g.F.Filter.filter_phase (vec_capacity c.args.self.now.stage.filters) (into_iter_items c.args.filters.now) c.fill-2.new.room.items c.fill-2.ensures.items c.requires.filters

pub returns-clause-plan : goal.returns-clause-plan
returns-clause-plan g c =
    let s : map identity_of (rows g.S.Servlet.serves g.S.Servlet.servlet_phase c.fill.new.room.items)
    ≡ take (vec_capacity c.args.self.now.stage.servlets) (identities_of g.S.Servlet.serves (into_iter_items c.args.servlets.now)) =
    identities_filled g.S.Servlet.serves g.S.Servlet.servlet_phase (vec_capacity c.args.self.now.stage.servlets) (into_iter_items c.args.servlets.now) c.fill.new.room.items c.fill.ensures.items in
    let f : map identity_of (rows g.F.Filter.filtering g.F.Filter.filter_phase c.fill-2.new.room.items)
    ≡ take (vec_capacity c.args.self.now.stage.filters) (identities_of g.F.Filter.filtering (into_iter_items c.args.filters.now)) =
    identities_filled g.F.Filter.filtering g.F.Filter.filter_phase (vec_capacity c.args.self.now.stage.filters) (into_iter_items c.args.filters.now) c.fill-2.new.room.items c.fill-2.ensures.items in
    c.launch.ensures.plan ∙ (λ i. plan_with (frame_of c.args.self.now) (s i) (f i))
