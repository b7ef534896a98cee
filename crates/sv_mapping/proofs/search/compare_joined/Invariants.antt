use Rattle.sv_mapping.proofs.Prelude.{◌≡◌, ◌++◌, length, text_cmp}
use Rattle.sv_mapping.proofs.search.compare_joined.Given as goal

-- the rest decides
abbrev pub invariant-loop-right : goal.invariant-loop-right
invariant-loop-right l = text_cmp l.left (l.right ++ l.fn.back) ≡ text_cmp l.fn.text (l.fn.front ++ l.fn.back)

abbrev pub decreases-loop-right : goal.decreases-loop-right
decreases-loop-right l = length l.right
