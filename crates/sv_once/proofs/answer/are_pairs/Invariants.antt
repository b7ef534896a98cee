use Rattle.std.proofs.Common.{◌≡◌, map, drop}
use Rattle.std.specs.List.{list_all}
use Rattle.sv_once.specs.Answer as spec
use Rattle.sv_once.proofs.answer.are_pairs.Given as goal

-- it hangs on the pairs that are left
abbrev pub invariant-loop-name : goal.invariant-loop-name
invariant-loop-name l =
    list_all spec.is_field (map (λ p. (p.0.now, p.1.now)) (drop l.name-index l.pairs)) ≡ list_all spec.is_field (map (λ p. (p.0.now, p.1.now)) l.pairs)
