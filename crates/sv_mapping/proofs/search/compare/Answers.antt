use Rattle.sv_mapping.proofs.Prelude.{arith, ◌∙◌}
use Rattle.sv_mapping.proofs.CompareLemmas.{compared_longer}
use Rattle.sv_mapping.proofs.search.compare.Goals as goal

pub returns-in-len1-up-left-2 : goal.returns-in-len1-up-left-2
returns-in-len1-up-left-2 c =
    compared_longer c.loop-right.left.now c.loop-right.right.now (omega (arith, c.in-len1-up-left-2.len_at_least)) (omega (arith, c.in_default.len_below)) ∙ c.loop-right.invariant
