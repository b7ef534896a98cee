use Rattle.sv_dispatch.proofs.Prelude.{◌∙◌, sym, IfOk-weaker}
use Rattle.sv_dispatch.proofs.OpenLemmas.{enters, enters_not}
use Rattle.sv_dispatch.proofs.steps.enter.Goals as goal

pub returns-in-Some-clause-current : goal.returns-in-Some-clause-current
returns-in-Some-clause-current g c =
    IfOk-weaker c.perform.result _ _ (λ mode k e. k e ∙ enters _ e c.args.ask _ _ _ (sym c.in-Some.is ∙ c.in_ok-visit.ensures)) c.perform.ensures.current

pub returns-in_ok-from_str-in-None-clause-current : goal.returns-in_ok-from_str-in-None-clause-current
returns-in_ok-from_str-in-None-clause-current g c e = enters_not _ e c.args.ask _ _ _ (sym c.in-None.is ∙ c.in_ok-visit.ensures) c.in_ok-from_str-in-None.ensures
