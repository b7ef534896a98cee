use Rattle.sv_dispatch.proofs.Prelude.{◌∙◌, sym, refl, ap, ℕ, List, Table, dispatched, performed, lent_of, table_of, Visit}
use Rattle.sv_dispatch.proofs.OpenLemmas.{opens, opens_at, opens_not}
use Rattle.sv_dispatch.proofs.RunLemmas.{left_by}
use Rattle.sv_dispatch.proofs.steps.open.Goals as goal

pub returns-in-Ok-clause-held : goal.returns-in-Ok-clause-held
returns-in-Ok-clause-held g c = opens _ _ _ _ _ _ c.requires c.begin.ensures.same (sym c.in-Ok.is ∙ c.to_serve.ensures.servlet) c.in_ok-passed.ensures.ready

pub returns-in-Ok-clause-current : goal.returns-in-Ok-clause-current
returns-in-Ok-clause-current g c e left =
    let t : Table = table_of g.S.Servlet g.F.Filter c.args.stage.now in
    let at : List ℕ → Visit = λ path. record c.args.visit { path = path } in
    opens_at t _ e (at c.as_str.result.now) left _ _ _ _ c.in_ok-passed.ensures.begun refl c.begin.ensures.same (sym c.in-Ok.is ∙ c.to_serve.ensures.servlet)
    ∙ ap (λ (path : List ℕ). performed t (dispatched t e) (at path) left (lent_of c.args.stage.now)) c.as_str.ensures

pub returns-clause-current : goal.returns-clause-current
returns-clause-current g c =
    let t : Table = table_of g.S.Servlet g.F.Filter c.args.stage.now in
    let at : List ℕ → Visit = λ path. record c.args.visit { path = path } in
    left_by c.finish.result _ _ _ _ c.finish.ensures.mode c.finish.ensures.closed
    (λ p e left. p left
    ∙ opens_not t _ e (at c.as_str.result.now) _ left _ _ _ _ _ c.in_ok-passed.ensures.begun c.begin.ensures.same (sym c.in-Err.is ∙ c.to_serve.ensures.servlet)
    ∙ ap (λ (path : List ℕ). performed t (dispatched t e) (at path) left (lent_of c.args.stage.now)) c.as_str.ensures)
