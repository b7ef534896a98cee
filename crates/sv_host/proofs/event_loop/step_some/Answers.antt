use Rattle.sv_host.proofs.ServingLemmas.{served_none}
use Rattle.sv_host.proofs.event_loop.step_some.Goals as goal

pub returns-then-is_empty-clause-served : goal.returns-then-is_empty-clause-served
returns-then-is_empty-clause-served g c = served_none _ c.requires
