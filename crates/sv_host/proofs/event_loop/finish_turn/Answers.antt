use Rattle.sv_host.proofs.ServingLemmas.{serves_on, served_then}
use Rattle.sv_host.proofs.event_loop.finish_turn.Goals as goal

pub end_turn-requires : goal.end_turn-requires
end_turn-requires g c = serves_on c.in_ok-step_gathered.was c.step_gathered.ensures.served

pub returns-in-Ok-clause-served : goal.returns-in-Ok-clause-served
returns-in-Ok-clause-served g c = served_then c.in_ok-step_gathered.was c.step_gathered.ensures.served c.end_turn.ensures.served
