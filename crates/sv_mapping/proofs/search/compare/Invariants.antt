use Rattle.sv_mapping.proofs.Prelude.{◌≡◌, length, text_cmp}
use Rattle.sv_mapping.proofs.search.compare.Given as goal

-- the rest decides
abbrev pub invariant-loop-right : goal.invariant-loop-right
invariant-loop-right l = text_cmp l.left l.right ≡ text_cmp l.fn.text l.fn.other

abbrev pub decreases-loop-right : goal.decreases-loop-right
decreases-loop-right l = length l.right
