use Rattle.sv_target.proofs.Prelude.{arith}
use Rattle.sv_target.proofs.DigitLemmas.{byte_by_values, no_byte_by_first, no_byte_by_second}
use Rattle.sv_target.proofs.digits.byte_of.Goals as goal

pub returns-then-first-gt15 : goal.returns-then-first-gt15
returns-then-first-gt15 c = no_byte_by_first c.args.high c.args.low _ c.value_of-first.ensures (omega arith)

pub returns-then-second-gt15 : goal.returns-then-second-gt15
returns-then-second-gt15 c = no_byte_by_second c.args.high c.args.low _ _ c.value_of-first.ensures (omega arith) c.value_of-second.ensures (omega arith)

pub returns : goal.returns
returns c = byte_by_values c.args.high c.args.low _ _ c.value_of-first.ensures (omega arith) c.value_of-second.ensures (omega arith)
