use Rattle.sv_dispatch.proofs.Prelude.{◌∙◌, refl, Done, Fault, Finished, Faulted}
use Rattle.sv_dispatch.proofs.RunLemmas.{follow_end, follow_error, follow_forward, follow_include, left_by, nests}
use Rattle.sv_dispatch.proofs.steps.follow.Goals as goal

pub returns-in-Done-clause-current : goal.returns-in-Done-clause-current
returns-in-Done-clause-current g c = left_by c.close.result _ Finished _ _ c.close.ensures.mode c.close.ensures.closed
    (λ p e left. p left ∙ follow_end _ e c.args.held left _ Finished _ Done c.in-Done.is refl)

pub returns-in-SendError-clause-current : goal.returns-in-SendError-clause-current
returns-in-SendError-clause-current g c = left_by c.close-in-SendError.result _ _ _ _ c.close-in-SendError.ensures.mode c.close-in-SendError.ensures.closed
    (λ p e left. p left ∙ follow_error _ e c.args.held left _ _ _ _ _ c.in-SendError.is c.sent-ended.ensures.ending)

pub returns-in-Fault-clause-current : goal.returns-in-Fault-clause-current
returns-in-Fault-clause-current g c = left_by c.close-in-Fault.result _ (Faulted c.in-Fault.name) _ _ c.close-in-Fault.ensures.mode c.close-in-Fault.ensures.closed
    (λ p e left. p left ∙ follow_end _ e c.args.held left _ (Faulted c.in-Fault.name) _ (Fault c.in-Fault.name) c.in-Fault.is refl)

pub returns-in-Forward-clause-current : goal.returns-in-Forward-clause-current
returns-in-Forward-clause-current g c = nests c.nest.result _ _ _ _ _ _ _ c.nest.ensures (λ e left. follow_forward _ e c.args.held left _ _ _ _ c.in-Forward.is c.clear_body.ensures)

pub returns-in-Include-clause-current : goal.returns-in-Include-clause-current
returns-in-Include-clause-current g c = nests c.nest-in-Include.result _ _ _ _ _ _ _ c.nest-in-Include.ensures (λ e left. follow_include _ e c.args.held left _ _ _ _ _ c.in-Include.is c.hold.ensures)
