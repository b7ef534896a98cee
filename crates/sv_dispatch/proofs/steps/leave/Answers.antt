use Rattle.sv_dispatch.proofs.Prelude.{◌∙◌, sym, ap, subst, arith, ◌<◌, ◌≤◌, Bool, held, IfOk-weaker, IsModeOf, need, weight, Mode, Faulted}
use Rattle.sv_dispatch.proofs.RunLemmas.{left_by, leave_return, abandon_return, abandon_resume, fault_resume, finish_resume, fail_resume}
use Rattle.sv_dispatch.proofs.steps.leave.Goals as goal

pub returns-in-Abandoned-clause-current : goal.returns-in-Abandoned-clause-current
returns-in-Abandoned-clause-current g c e left = abandon_return _ e c.args.frame _ left _ c.in-Return.is c.in-Abandoned.is

pub returns-in-Return : goal.returns-in-Return
returns-in-Return g c = record {
  same = c.close.ensures.same;
  held = IfOk-weaker c.close.result _ _ (λ mode h. subst (IsModeOf _) (sym h) tt) c.close.ensures.mode;
  need = IfOk-weaker c.close.result _ _ (λ mode h. subst (λ (m : Mode). need m ≤ 1) (sym h) (omega arith)) c.close.ensures.mode;
  less = IfOk-weaker c.close.result _ _ (λ mode h. subst (λ (m : Mode). weight m < 2) (sym h) (omega arith)) c.close.ensures.mode;
  current = left_by c.close.result _ c.args.ended _ _ c.close.ensures.mode c.close.ensures.closed (λ p e left. p left ∙ leave_return _ e c.args.frame _ left _ c.in-Return.is);
}

pub returns-in-Abandoned-ended-clause-current : goal.returns-in-Abandoned-ended-clause-current
returns-in-Abandoned-ended-clause-current g c e left = abandon_resume _ e c.args.frame _ left _ _ _ c.in-Resume.is (c.hold.ensures ∙ ap (λ (b : Bool). held c.args.stage.now.reply b) c.is_included.ensures) c.in-Abandoned-ended.is

pub returns-in-Faulted-clause-current : goal.returns-in-Faulted-clause-current
returns-in-Faulted-clause-current g c = left_by c.close-in-Faulted.result _ (Faulted c.in-Faulted.name) _ _ c.close-in-Faulted.ensures.mode c.close-in-Faulted.ensures.closed
    (λ p e left. p left ∙ fault_resume _ e c.args.frame _ left _ _ _ _ c.in-Resume.is (c.hold.ensures ∙ ap (λ (b : Bool). held c.args.stage.now.reply b) c.is_included.ensures) c.in-Faulted.is)

pub returns-in-Finished-clause-current : goal.returns-in-Finished-clause-current
returns-in-Finished-clause-current g c e left = finish_resume _ e c.args.frame _ _ left _ _ _ c.resume_with.ensures c.in-Resume.is (c.hold.ensures ∙ ap (λ (b : Bool). held c.args.stage.now.reply b) c.is_included.ensures) c.in-Finished.is

pub returns-clause-current : goal.returns-clause-current
returns-clause-current g c e left = fail_resume _ e c.args.frame _ _ left _ _ _ _ _ c.resume_with-in-Failed.ensures c.in-Resume.is (c.hold.ensures ∙ ap (λ (b : Bool). held c.args.stage.now.reply b) c.is_included.ensures) c.in-Failed.is
