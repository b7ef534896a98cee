use Rattle.sv_target.proofs.Prelude.{◌≡◌, length, bytes_eq}
use Rattle.sv_target.proofs.name.is_same.Given as goal

-- the rest decides
abbrev pub invariant-loop-left : goal.invariant-loop-left
invariant-loop-left l = bytes_eq l.left l.right ≡ bytes_eq l.fn.name l.fn.other

abbrev pub decreases-loop-left : goal.decreases-loop-left
decreases-loop-left l = length l.left
