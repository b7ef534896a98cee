use Rattle.std.proofs.Common.{[], sym, subst, All}
use Rattle.std.proofs.lemmas.List.Elements.{All-nil, All-cons}
use Rattle.sv_dispatch.specs.Rows.{IsReadyAt, rows}
use Rattle.test_memory.proofs.StageLemmas.{one_is_marked, one_is_ready}
use Rattle.test_memory.proofs.cases.dispatches.stage.Goals as goal

pub returns : goal.returns
returns g c =
    let serves = g.S.Servlet.serves in
    let servlet_phase = g.S.Servlet.servlet_phase in
    let filtering = g.F.Filter.filtering in
    let filter_phase = g.F.Filter.filter_phase in
    let all = c.in_ok-filters.filters.items in
    record {
      servlets = one_is_marked serves servlet_phase c.args.servlet c.in_ok-servlets.servlets.items c.in_ok-servlets.ensures c.requires.servlet;
      filters = subst (λ ms. All (λ m. IsReadyAt (rows filtering filter_phase all) m.filter) ms) (sym c.in_ok-chains.ensures)
          (All-cons (λ m. IsReadyAt (rows filtering filter_phase all) m.filter) _ []
          (subst (λ n. IsReadyAt (rows filtering filter_phase all) n) (sym c.in_ok-mapping.ensures)
          (one_is_ready filtering filter_phase c.args.filter all c.in_ok-filters.ensures c.requires.filter))
          (All-nil (λ m. IsReadyAt (rows filtering filter_phase all) m.filter)));
    }
