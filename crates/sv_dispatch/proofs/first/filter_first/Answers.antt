use Rattle.sv_dispatch.proofs.Prelude.{◌∙◌, ap, sym, subst, ℕ, All, List, IsReadyAt, Table, befores, lent_of, table_of}
use Rattle.sv_dispatch.proofs.FirstLemmas.{behind_first}
use Rattle.sv_dispatch.proofs.OpenLemmas.{passed_ready}
use Rattle.sv_dispatch.proofs.first.filter_first.Goals as goal

pub place_first-requires-clause-ready : goal.place_first-requires-clause-ready
place_first-requires-clause-ready g c =
    let t : Table = table_of g.S.Servlet g.F.Filter c.args.stage.now in
    passed_ready _ _ _ _ _ _ _ _ _ (ap (λ t. t.filters) c.run_befores.ensures.same) (subst (All (IsReadyAt t.filters)) (sym c.as_slice.ensures.value) c.requires.ready) c.in_ok-passed.ensures.begun

pub returns-clause-outcome : goal.returns-clause-outcome
returns-clause-outcome g c =
    let t : Table = table_of g.S.Servlet g.F.Filter c.args.stage.now in
    behind_first c.place_first.result t _ _ _ _ _ _ c.place_first.ensures.outcome c.run_befores.ensures.same
    (c.in_ok-passed.ensures.begun ∙ ap (λ (ks : List ℕ). befores t.filters ks c.args.view (lent_of c.args.stage.now)) c.as_slice.ensures.value)
