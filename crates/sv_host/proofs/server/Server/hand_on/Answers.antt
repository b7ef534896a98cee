use Rattle.sv_host.proofs.HandLemmas.{one_handed}
use Rattle.sv_host.proofs.SendLemmas.{others_of}
use Rattle.sv_host.proofs.Prelude.{into_iter_items, arith, length, ap, sym, ◌∙◌, subst, sending_end, AreSendable}
use Rattle.sv_host.proofs.server.Server.hand_on.Goals as goal

pub loop-output-preserved : goal.loop-output-preserved
loop-output-preserved c =
    let was = c.loop-output.invariant in
    let steps = c.in-Some.ensures.steps in
    let rest = into_iter_items c.next.new.self in
    record {
      sendable = others_of c.in-Some.output rest (subst (λ xs. AreSendable xs) steps.0 was.sendable);
      long = omega (arith, steps.1, was.long, ap length steps.0);
      handed = λ final all. was.handed final (one_handed (into_iter_items c.loop-output.output-iterator) rest c.in-Some.output c.args.now c.loop-output.self c.hand_on_some.new.self final steps.0 c.hand_on_some.ensures.told all);
      round = c.hand_on_some.ensures.round ∙ was.round;
      ends = ap (λ sending. sending_end sending rest) c.hand_on_some.ensures.after ∙ ap (λ xs. sending_end c.loop-output.sending xs) (sym steps.0) ∙ was.ends;
      carried = λ first so_far. c.hand_on_some.ensures.carried first (was.carried first so_far);
    }
