use Rattle.std.proofs.Common.{◌≡◌, length}
use Rattle.sv_model.specs.Blanks.{trim_start}
use Rattle.sv_model.proofs.blanks.trim_start.Given as goal

abbrev pub invariant-loop-first : goal.invariant-loop-first
invariant-loop-first l = trim_start l.fn.text ≡ trim_start l.left

abbrev pub decreases-loop-first : goal.decreases-loop-first
decreases-loop-first l = length l.left
