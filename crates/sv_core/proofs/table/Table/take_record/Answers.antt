use Rattle.sv_core.proofs.Prelude.{rules}
use Rattle.sv_core.proofs.table.Table.take_record.Goals as goal

pub returns-in-Gone : goal.returns-in-Gone
returns-in-Gone c = search rules
