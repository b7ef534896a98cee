use Rattle.sv_host.proofs.Prelude.{ap, clients_of}
use Rattle.sv_host.proofs.ServingLemmas.{serves_on, serves_same, served_then}
use Rattle.sv_host.proofs.event_loop.keep_time.Goals as goal

pub tick-requires : goal.tick-requires
tick-requires g c = serves_same (ap (λ p. clients_of p) c.await_by.ensures.clients) c.requires

pub wait_on-requires : goal.wait_on-requires
wait_on-requires g c = serves_on c.in_ok-tick.was c.tick.ensures.served

pub returns-clause-served : goal.returns-clause-served
returns-clause-served g c = served_then c.in_ok-tick.was c.tick.ensures.served c.wait_on.ensures.served

pub returns-clause-carried : goal.returns-clause-carried
returns-clause-carried g c = λ first so_far. c.wait_on.ensures.carried first (c.tick.ensures.carried first (c.await_by.ensures.carried first so_far))
