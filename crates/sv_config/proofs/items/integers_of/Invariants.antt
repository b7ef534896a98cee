use Rattle.sv_config.proofs.Prelude.{◌≡◌, map, take, flat_map, spot, child}
use Rattle.sv_config.specs.Repeats.{integer_item}
use Rattle.sv_config.proofs.items.integers_of.Given as goal

abbrev pub invariant-loop-index : goal.invariant-loop-index
invariant-loop-index l =
    map (λ i. (i.0, spot i.1)) l.items.items ≡ flat_map (integer_item l.place l.kind l.key) (map child (take l.index-index l.tables))
