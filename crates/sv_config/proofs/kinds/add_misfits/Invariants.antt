use Rattle.sv_config.proofs.Prelude.{◌≡◌, ◌++◌, map, take, flat_map, spot, placed, rule_of}
use Rattle.sv_config.specs.Kinds.{mistyped_field}
use Rattle.sv_config.proofs.kinds.add_misfits.Given as goal

abbrev pub invariant-loop-rule : goal.invariant-loop-rule
invariant-loop-rule l =
    map spot l.places.items ≡ map spot l.fn.places.items ++ flat_map (mistyped_field (placed l.at)) (map rule_of (take l.rule-index l.rules))
