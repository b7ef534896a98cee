use Rattle.sv_container.proofs.LoopLemmas.{Changed}
use Rattle.sv_container.proofs.TellLemmas.{IsTold}
use Rattle.sv_container.proofs.tell.tell_in_order.Given as goal

abbrev pub invariant-loop-at : goal.invariant-loop-at
invariant-loop-at g l = Changed (IsTold g.L.Listener.hears g.L.Listener.noted l.told) l.fn.listeners.items l.listeners.items l.at
