use Rattle.sv_config.proofs.Prelude.{◌≡◌, ◌++◌, map, take, flat_map, spot, placed, rule_of}
use Rattle.sv_config.specs.Missing.{lacks}
use Rattle.sv_config.specs.Place.{field_where}
use Rattle.sv_config.proofs.missing.add_required.Given as goal

abbrev pub invariant-loop-rule : goal.invariant-loop-rule
invariant-loop-rule l =
    map spot l.places.items
    ≡ map spot l.fn.places.items ++ flat_map (λ rule. field_where (lacks (placed l.at).1 rule) (placed l.at) rule.key) (map rule_of (take l.rule-index l.rules))
