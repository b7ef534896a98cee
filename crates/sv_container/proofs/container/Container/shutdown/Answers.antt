use Rattle.sv_container.proofs.Prelude.{◌≡◌, ◌-◌, ◌<◌, ◌∙◌, ap, arith, length, length-set, refl, rows, apps_of, ready_count}
use Rattle.sv_container.proofs.ContainerLemmas.{as_it_was, filters_counted, filters_to_come, filters_turned, live_filters, live_servlets, others_stay, same_filters, servlets_counted, servlets_to_come, servlets_turned}
use Rattle.sv_container.proofs.container.Container.shutdown.Goals as goal

pub loop-at-init : goal.loop-at-init
loop-at-init g c =
    let all : c.len-at.result ≡ length c.args.self.applications.items = c.len-at.ensures ∙ c.args.self.applications.ok.0 in
    record {
      within = omega (arith, all);
      long = refl;
      rest = λ k d h. refl;
      few_servlets = omega arith;
      few_filters = omega arith;
      servlets = servlets_to_come g.S.Servlet g.F.Filter c.args.self.applications.items _ _ all;
      filters = filters_to_come g.S.Servlet g.F.Filter c.args.self.applications.items _ _ all;
    }

pub destroy_servlets-requires : goal.destroy_servlets-requires
destroy_servlets-requires g c =
    let h : c.loop-at.at - 1 < length c.args.self.applications.items = omega (arith, c.loop-at-test.true, c.loop-at.invariant.within) in
    let e = as_it_was c.args.self.applications.items c.loop-at.applications.items c.loop-at.at c.index_mut.result.now c.loop-at-test.true c.loop-at.invariant.rest c.index_mut.ensures.value in
    live_servlets g.S.Servlet g.F.Filter c.args.self.applications.items _ c.index_mut.result.now h e c.requires

pub destroy_filters-requires : goal.destroy_filters-requires
destroy_filters-requires g c =
    let h : c.loop-at.at - 1 < length c.args.self.applications.items = omega (arith, c.loop-at-test.true, c.loop-at.invariant.within) in
    let e = as_it_was c.args.self.applications.items c.loop-at.applications.items c.loop-at.at c.index_mut.result.now c.loop-at-test.true c.loop-at.invariant.rest c.index_mut.ensures.value in
    let w : c.loop-at.at - 1 < length c.loop-at.applications.items = rw c.loop-at.invariant.long h in
    let f = same_filters c.args.self.applications.items c.loop-at.applications.items (c.loop-at.at - 1) c.index_mut.result.now _ c.index_mut-in-loop-at.result.now w c.index_mut-in-loop-at.ensures.value refl in
    live_filters g.S.Servlet g.F.Filter c.args.self.applications.items _ c.index_mut.result.now c.index_mut-in-loop-at.result.now.stage.filters.items h e f c.requires

pub loop-at-preserved : goal.loop-at-preserved
loop-at-preserved g c =
    let h : c.loop-at.at - 1 < length c.args.self.applications.items = omega (arith, c.loop-at-test.true, c.loop-at.invariant.within) in
    let e = as_it_was c.args.self.applications.items c.loop-at.applications.items c.loop-at.at c.index_mut.result.now c.loop-at-test.true c.loop-at.invariant.rest c.index_mut.ensures.value in
    let w : c.loop-at.at - 1 < length c.loop-at.applications.items = rw c.loop-at.invariant.long h in
    let f = same_filters c.args.self.applications.items c.loop-at.applications.items (c.loop-at.at - 1) c.index_mut.result.now _ c.index_mut-in-loop-at.result.now w c.index_mut-in-loop-at.ensures.value refl in
    record {
      within = omega (arith, c.loop-at.invariant.within);
      long = length-set _ _ _ ∙ (length-set _ _ _ ∙ c.loop-at.invariant.long);
      rest = others_stay c.args.self.applications.items c.loop-at.applications.items c.loop-at.at c.index_mut.result.now _ _ c.loop-at-test.true c.loop-at.invariant.rest;
      few_servlets = omega (arith, c.saturating_add-servlets.ensures);
      few_filters = omega (arith, c.saturating_add-filters.ensures);
      servlets = servlets_turned g.S.Servlet g.F.Filter c.args.self.applications.items c.loop-at.at c.loop-at.servlets c.destroy_servlets.result c.saturating_add-servlets.result _ c.index_mut.result.now
          c.loop-at-test.true c.loop-at.invariant.within e c.saturating_add-servlets.ensures c.destroy_servlets.ensures c.loop-at.invariant.servlets;
      filters = filters_turned g.S.Servlet g.F.Filter c.args.self.applications.items c.loop-at.at c.loop-at.filters c.destroy_filters.result c.saturating_add-filters.result _ c.index_mut.result.now
          c.loop-at-test.true c.loop-at.invariant.within e c.saturating_add-filters.ensures
          (c.destroy_filters.ensures ∙ ap (λ hs. ready_count (rows g.F.Filter.filtering g.F.Filter.filter_phase hs)) f) c.loop-at.invariant.filters;
    }

pub returns-clause-servlets : goal.returns-clause-servlets
returns-clause-servlets g c =
    let done : c.loop-at.at ≡ 0 = omega arith in
    servlets_counted (apps_of g.S.Servlet g.F.Filter c.args.self.applications.items) c.loop-at.at c.loop-at.servlets _ done c.loop-at.invariant.few_servlets c.loop-at.invariant.servlets

pub returns-clause-filters : goal.returns-clause-filters
returns-clause-filters g c =
    let done : c.loop-at.at ≡ 0 = omega arith in
    filters_counted (apps_of g.S.Servlet g.F.Filter c.args.self.applications.items) c.loop-at.at c.loop-at.filters _ done c.loop-at.invariant.few_filters c.loop-at.invariant.filters
