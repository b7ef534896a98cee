use Rattle.sv_host.proofs.ServingLemmas.{gathered_then, served_nothing, serves_gathered}
use Rattle.sv_host.proofs.event_loop.step_gathered.Goals as goal

pub step_some-requires : goal.step_some-requires
step_some-requires g c = serves_gathered c.requires c.gather_own.ensures.gathered c.gather_own.ensures.clients

pub returns-in-Ok-clause-served : goal.returns-in-Ok-clause-served
returns-in-Ok-clause-served g c = gathered_then c.gather_own.ensures.gathered c.step_some.ensures.served

pub returns-in-Err-clause-served : goal.returns-in-Err-clause-served
returns-in-Err-clause-served g c = served_nothing _ c.requires c.gather_own.ensures.gathered c.gather_own.ensures.clients
