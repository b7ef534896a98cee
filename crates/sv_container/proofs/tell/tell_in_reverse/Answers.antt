use Rattle.sv_container.proofs.Prelude.{◌≡◌, arith}
use Rattle.sv_container.proofs.LoopLemmas.{all_changed_behind, one_more_before}
use Rattle.sv_container.proofs.TellLemmas.{IsTold, all_noted, same_ears}
use Rattle.sv_container.proofs.tell.tell_in_reverse.Goals as goal

pub loop-at-preserved : goal.loop-at-preserved
loop-at-preserved g c =
    one_more_before (IsTold g.L.Listener.hears g.L.Listener.noted c.args.told.now) _ _ _ _ _ c.loop-at-test.true c.index_mut.ensures.value
    (record { ear = c.tell_one.ensures.ear; notes = c.tell_one.ensures.noted }) c.loop-at.invariant

pub returns-clause-same : goal.returns-clause-same
returns-clause-same g c =
    let done : c.loop-at.at ≡ 0 = omega arith in
    same_ears g.L.Listener.hears g.L.Listener.noted c.args.told.now _ _ (all_changed_behind (IsTold g.L.Listener.hears g.L.Listener.noted c.args.told.now) _ _ (rw done at c.loop-at.invariant))

pub returns-clause-noted : goal.returns-clause-noted
returns-clause-noted g c =
    let done : c.loop-at.at ≡ 0 = omega arith in
    all_noted g.L.Listener.hears g.L.Listener.noted c.args.told.now _ _ (all_changed_behind (IsTold g.L.Listener.hears g.L.Listener.noted c.args.told.now) _ _ (rw done at c.loop-at.invariant))
