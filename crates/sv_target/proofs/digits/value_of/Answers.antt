use Rattle.sv_target.proofs.Prelude.{arith, sym}
use Rattle.sv_target.proofs.DigitLemmas.{value_at}
use Rattle.sv_target.proofs.digits.value_of.Goals as goal

pub returns : goal.returns
returns c = sym (value_at c.args.byte (omega arith))
