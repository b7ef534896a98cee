use Rattle.sv_dispatch.proofs.Prelude.{◌∙◌, sym, refl, IfOk-weaker}
use Rattle.sv_dispatch.proofs.FirstLemmas.{ended_by}
use Rattle.sv_dispatch.proofs.OpenLemmas.{behind_err, behind_ok, opens}
use Rattle.sv_dispatch.proofs.first.place_first.Goals as goal

pub serve_first-requires-clause-held : goal.serve_first-requires-clause-held
serve_first-requires-clause-held g c = opens _ _ _ _ _ _ c.requires.sound refl (sym c.in-Ok.is ∙ c.to_serve.ensures.servlet) c.requires.ready

pub returns-in-Ok-clause-outcome : goal.returns-in-Ok-clause-outcome
returns-in-Ok-clause-outcome g c =
    IfOk-weaker c.serve_first.result _ _ (λ ended h. h ∙ behind_ok _ 15 _ _ _ _ _ refl (sym c.in-Ok.is ∙ c.to_serve.ensures.servlet)) c.serve_first.ensures.outcome

pub returns-in-Err-clause-outcome : goal.returns-in-Err-clause-outcome
returns-in-Err-clause-outcome g c = ended_by c.end.result _ c.args.left.now _ _ c.end.ensures.ended c.end.ensures.closed
    (λ p. p c.args.left.now ∙ behind_err _ 15 _ _ _ _ _ _ _ (sym c.in-Err.is ∙ c.to_serve.ensures.servlet))
