use Rattle.sv_host.proofs.ServingLemmas.{served_nothing, serves_gathered}
use Rattle.sv_host.proofs.nudges.tell.Goals as goal

pub returns-in-Err-clause-served : goal.returns-in-Err-clause-served
returns-in-Err-clause-served g c = served_nothing _ c.requires c.add_nudges.ensures.gathered c.add_nudges.ensures.clients

pub step-requires : goal.step-requires
step-requires g c = serves_gathered c.requires c.add_nudges.ensures.gathered c.add_nudges.ensures.clients

pub step-requires-in-Ok-false : goal.step-requires-in-Ok-false
step-requires-in-Ok-false g c = serves_gathered c.requires c.add_nudges.ensures.gathered c.add_nudges.ensures.clients
