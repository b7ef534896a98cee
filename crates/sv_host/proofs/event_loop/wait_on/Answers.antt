use Rattle.sv_host.proofs.ServingLemmas.{serves_on, served_then}
use Rattle.sv_host.proofs.event_loop.wait_on.Goals as goal

pub expire-requires : goal.expire-requires
expire-requires g c = serves_on c.in_ok-ask_again.was c.ask_again.ensures.served

pub returns-clause-served : goal.returns-clause-served
returns-clause-served g c = served_then c.in_ok-ask_again.was c.ask_again.ensures.served c.expire.ensures.served
