use Rattle.sv_container.proofs.Prelude.{◌≡◌, ◌∙◌, ap, arith, length, sym, into_iter_items}
use Rattle.sv_container.proofs.PrepareLemmas.{all_frames, one_more_empty, one_more_frame}
use Rattle.sv_container.proofs.prepare.prepare.Goals as goal

pub loop-context-preserved : goal.loop-context-preserved
loop-context-preserved g c =
    let at = c.loop-context in
    let place : c.len-place.result ≡ length at.applications.items = c.len-place.ensures ∙ at.applications.ok.0 in
    let long = ap length c.in-Some.ensures.steps.0 in
    record {
      frames = one_more_frame _ _ _ _ _ _ _ _ c.in_ok-push.ensures.items c.in-Some.ensures.steps.0 place c.in_ok-prepare_one.ensures.frame at.invariant.frames;
      empty = one_more_empty _ _ _ c.in_ok-push.ensures.items c.in_ok-prepare_one.ensures.empty at.invariant.empty;
      long = omega (arith, c.in-Some.ensures.steps.1, at.invariant.long, long);
    }

pub returns-clause-frames : goal.returns-clause-frames
returns-clause-frames g c =
    let none : length (into_iter_items c.loop-context.context-iterator) ≡ 0 = sym c.loop-context.invariant.long ∙ c.in-None.ensures.steps.0 in
    all_frames _ _ _ none c.loop-context.invariant.frames
