use Rattle.sv_core.proofs.Prelude.{rules}
use Rattle.sv_core.proofs.kept.Kept.on_want.Goals as goal

pub returns-else-epoch : goal.returns-else-epoch
returns-else-epoch c = search rules
