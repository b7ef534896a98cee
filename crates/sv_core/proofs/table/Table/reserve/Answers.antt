use Rattle.sv_core.proofs.Prelude.{rules}
use Rattle.sv_core.proofs.table.Table.reserve.Goals as goal

pub returns-clause-room : goal.returns-clause-room
returns-clause-room c = search rules
