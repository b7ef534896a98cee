use Rattle.sv_target.proofs.Prelude.{◌≡◌, ◌+◌, ◌*◌, length, take, bytes_of}
use Rattle.sv_target.proofs.DigitLemmas.{prepend}
use Rattle.sv_target.proofs.digits.spelled_bytes.Given as goal

abbrev pub invariant-bytes : goal.invariant-bytes
invariant-bytes l = (length l.bytes ≡ 26) × (length l.left + 2 * l.place ≡ 52) × (bytes_of l.fn.text ≡ prepend (take l.place l.bytes) (bytes_of l.left))
