use Rattle.sv_host.proofs.ServingLemmas.{serves_on, served_then}
use Rattle.sv_host.proofs.event_loop.look_after.Goals as goal

pub compact_in_turn-requires : goal.compact_in_turn-requires
compact_in_turn-requires g c = serves_on c.in_ok-settle.was c.settle.ensures.served

pub returns-clause-served : goal.returns-clause-served
returns-clause-served g c = served_then c.in_ok-settle.was c.settle.ensures.served c.compact_in_turn.ensures.served
