use Rattle.sv_host.proofs.ServingLemmas.{served_none}
use Rattle.sv_host.proofs.nudges.ask_again.Goals as goal

pub returns-then-not-is_due-clause-served : goal.returns-then-not-is_due-clause-served
returns-then-not-is_due-clause-served g c = served_none _ c.requires
