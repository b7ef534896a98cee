use Rattle.sv_container.proofs.Prelude.{◌<◌, length}
use Rattle.sv_container.proofs.LoopLemmas.{all_changed, one_more}
use Rattle.sv_container.proofs.TellLemmas.{IsTold, all_noted, same_ears}
use Rattle.sv_container.proofs.tell.tell_in_order.Goals as goal

pub loop-at-preserved : goal.loop-at-preserved
loop-at-preserved g c =
    let h : c.loop-at.at < length c.args.listeners.now.items = rw c.args.listeners.now.ok.0 at (rw c.len-at-end.ensures at c.loop-at-test.true) in
    one_more (IsTold g.L.Listener.hears g.L.Listener.noted c.args.told.now) _ _ _ _ _ h c.index_mut.ensures.value
    (record { ear = c.tell_one.ensures.ear; notes = c.tell_one.ensures.noted }) c.loop-at.invariant

pub returns-clause-same : goal.returns-clause-same
returns-clause-same g c = same_ears g.L.Listener.hears g.L.Listener.noted c.args.told.now _ _ (all_changed (IsTold g.L.Listener.hears g.L.Listener.noted c.args.told.now) _ _ _ (rw c.args.listeners.now.ok.0 at (rw c.len-at-end.ensures at c.loop-at-test.false)) c.loop-at.invariant)

pub returns-clause-noted : goal.returns-clause-noted
returns-clause-noted g c = all_noted g.L.Listener.hears g.L.Listener.noted c.args.told.now _ _ (all_changed (IsTold g.L.Listener.hears g.L.Listener.noted c.args.told.now) _ _ _ (rw c.args.listeners.now.ok.0 at (rw c.len-at-end.ensures at c.loop-at-test.false)) c.loop-at.invariant)
