use Rattle.std.proofs.Common.{◌≡◌, length}
use Rattle.sv_model.specs.Blanks.{trim_end}
use Rattle.sv_model.proofs.blanks.trim_end.Given as goal

abbrev pub invariant-loop-last : goal.invariant-loop-last
invariant-loop-last l = trim_end l.fn.text ≡ trim_end l.left

abbrev pub decreases-loop-last : goal.decreases-loop-last
decreases-loop-last l = length l.left
