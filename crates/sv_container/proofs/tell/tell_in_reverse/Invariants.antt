use Rattle.sv_container.proofs.LoopLemmas.{ChangedBehind}
use Rattle.sv_container.proofs.TellLemmas.{IsTold}
use Rattle.sv_container.proofs.tell.tell_in_reverse.Given as goal

abbrev pub invariant-loop-at : goal.invariant-loop-at
invariant-loop-at g l = ChangedBehind (IsTold g.L.Listener.hears g.L.Listener.noted l.told) l.fn.listeners.items l.listeners.items l.at
