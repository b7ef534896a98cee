use Rattle.sv_core.proofs.Prelude.{rules}
use Rattle.sv_core.proofs.wants.settles.Goals as goal

pub returns-in-Taken : goal.returns-in-Taken
returns-in-Taken c = search rules
