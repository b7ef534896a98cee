use Rattle.sv_target.proofs.Prelude.{◌≡◌, length, true, common_from}
use Rattle.sv_target.proofs.target.is_undotted.Given as goal

-- the rest decides
abbrev pub invariant-loop-left : goal.invariant-loop-left
invariant-loop-left l = common_from l.begins l.left ≡ common_from true l.fn.text

abbrev pub decreases-loop-left : goal.decreases-loop-left
decreases-loop-left l = length l.left
