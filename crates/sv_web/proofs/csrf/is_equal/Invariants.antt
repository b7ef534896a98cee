use Rattle.std.proofs.Common.{◌≡◌, length}
use Rattle.std.specs.Prelude.{◌&&◌, bytes_eq}
use Rattle.sv_web.proofs.csrf.is_equal.Given as goal

-- what is known of the bytes so far, and the rest, decide
abbrev pub invariant-loop-left : goal.invariant-loop-left
invariant-loop-left l = l.is_equal && bytes_eq l.left l.right ≡ bytes_eq l.fn.one l.fn.other

abbrev pub decreases-loop-left : goal.decreases-loop-left
decreases-loop-left l = length l.left
