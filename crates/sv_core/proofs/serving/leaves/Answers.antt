use Rattle.sv_core.proofs.Prelude.{rules}
use Rattle.sv_core.proofs.serving.leaves.Goals as goal

pub returns-in-Some : goal.returns-in-Some
returns-in-Some c = search rules
