use Rattle.sv_host.proofs.ServingLemmas.{serves_on, served_then}
use Rattle.sv_host.proofs.event_loop.end_turn.Goals as goal

pub keep_time-requires : goal.keep_time-requires
keep_time-requires g c = serves_on c.in_ok-look_after.was c.look_after.ensures.served

pub returns-clause-served : goal.returns-clause-served
returns-clause-served g c = served_then c.in_ok-look_after.was c.look_after.ensures.served c.keep_time.ensures.served
