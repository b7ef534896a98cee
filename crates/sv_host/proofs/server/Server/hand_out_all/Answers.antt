use Rattle.sv_host.proofs.Prelude.{◌∙◌, arith, length, ap, refl, subst, sym, AllByRecursion, into_iter_items, last_taken, IsHandedOn, seconds_of, Quiet}
use Rattle.sv_host.proofs.HandLemmas.{all_out, none_out, none_taken, one_more_out}
use Rattle.sv_host.proofs.server.Server.hand_out_all.Goals as goal

pub loop-answer-preserved : goal.loop-answer-preserved
loop-answer-preserved c =
    let was = c.loop-answer.invariant in
    let steps = c.in-Some.ensures.steps in
    let rest = into_iter_items c.next.new.self in
    record {
      sendable = (subst (λ xs. AllByRecursion (λ a. IsHandedOn a) xs) steps.0 was.sendable).1;
      long = omega (arith, steps.1, was.long, ap length steps.0);
      count = omega (arith, steps.1, was.count, c.saturating_add-place.ensures);
      handed = λ final all. was.handed final
          (one_more_out c.loop-answer.place c.saturating_add-place.result c.args.ways.now c.way_at-way.result (into_iter_items c.loop-answer.answer-iterator) rest c.in-Some.answer c.seconds-now.result
          c.loop-answer.self c.hand_out_one-taken.new.self final steps.0 c.way_at-way.ensures (omega (arith, steps.1, was.count, c.saturating_add-place.ensures)) c.hand_out_one-taken.ensures.told all);
      taken = was.taken ∙ ap (last_taken c.loop-answer.taken) steps.0 ∙ ap (λ t. last_taken t rest) (sym c.hand_out_one-taken.ensures.taken);
      carried = λ first so_far. c.hand_out_one-taken.ensures.carried first (was.carried first so_far);
    }

-- none is left
pub returns-clause-told : goal.returns-clause-told
returns-clause-told c =
    let was = c.loop-answer.invariant in
    let items = into_iter_items c.loop-answer.answer-iterator in
    all_out c.args.ways.now (into_iter_items c.into_iter-answer-iterator.result) c.args.answers.items c.seconds-now.result (seconds_of c.args.self.now.time) c.args.self.now _
    c.into_iter-answer-iterator.ensures.into_iter_gives.0 c.seconds-now.ensures
    (was.handed _ (none_out c.loop-answer.place c.args.ways.now items c.seconds-now.result c.loop-answer.self _ (omega (arith, was.long, c.in-None.ensures.steps.0)) (refl, refl)))

pub returns-clause-taken : goal.returns-clause-taken
returns-clause-taken c =
    let was = c.loop-answer.invariant in
    sym (none_taken c.loop-answer.taken (into_iter_items c.loop-answer.answer-iterator) (omega (arith, was.long, c.in-None.ensures.steps.0))) ∙ sym was.taken ∙ ap (last_taken Quiet) c.into_iter-answer-iterator.ensures.into_iter_gives.0
