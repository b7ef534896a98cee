use Rattle.sv_mapping.proofs.Prelude.{◌≡◌, length, stripped}
use Rattle.sv_mapping.proofs.path.stripped.Given as goal

-- the rest decides
abbrev pub invariant-loop-left : goal.invariant-loop-left
invariant-loop-left l = stripped l.left l.rest ≡ stripped l.fn.front l.fn.text

abbrev pub decreases-loop-left : goal.decreases-loop-left
decreases-loop-left l = length l.left
