use Rattle.std.proofs.Common.{rules}
use Rattle.sv_record.proofs.record.read_whole.Goals as goal

pub returns : goal.returns
returns c = search rules
