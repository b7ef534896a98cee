use Rattle.sv_target.proofs.Prelude.{arith}
use Rattle.sv_target.proofs.CommonLemmas.{common_byte_at}
use Rattle.sv_target.proofs.target.is_common_byte.Goals as goal

pub returns : goal.returns
returns c = common_byte_at c.args.byte (omega arith)
