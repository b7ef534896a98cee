use Rattle.std.proofs.Common.{◌≡◌, Err, ⊎_elim, subst, sym, ap, ◌∙◌}
use Rattle.sv_model.specs.Cause.{cause_of}
use Rattle.sv_solo.proofs.Prelude.{Cause, StepFault, is_closed, IsSaid, Follows, verdict, Answered}
use Rattle.sv_model.specs.declared.site.StepFault.TheVariants.{Full, Memory}
use Rattle.sv_solo.specs.Reply.{refusal}
use Rattle.sv_solo.proofs.answer.say_step_fault.Goals as goal

pub returns-in-Full-clause-follows : goal.returns-in-Full-clause-follows
returns-in-Full-clause-follows g c token =
    let m = c.args.manner in
    let was = g.W.Write.contents c.args.writer.now in
    let now = g.W.Write.contents c.say_refusal.new.writer in
    let said = c.say_refusal.result in
    let closed = is_closed c.say_refusal.new.connection in
    let refused = λ (f : StepFault) (is : c.args.fault ≡ f).
    subst (λ (cause : Cause). IsSaid (refusal cause m.head_only m.close) m.now Answered was now closed said) (c.cause.ensures ∙ ap cause_of is) c.say_refusal.ensures.said in
    let follows = λ (f : StepFault). Follows (verdict token m.head_only m.close (Err f)) m.now was now closed said in
    ⊎_elim (λ (is : c.args.fault ≡ Full). subst follows (sym is) (refused Full is)) (λ (is : c.args.fault ≡ Memory). subst follows (sym is) (refused Memory is)) c.in-Full.is
