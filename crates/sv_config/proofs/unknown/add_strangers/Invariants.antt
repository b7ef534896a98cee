use Rattle.sv_config.proofs.Prelude.{◌≡◌, ◌++◌, map, take, flat_map, spot, child}
use Rattle.sv_config.specs.Unknown.{stranger_at}
use Rattle.sv_config.proofs.unknown.add_strangers.Given as goal

abbrev pub invariant-loop-index : goal.invariant-loop-index
invariant-loop-index l =
    map spot l.places.items
    ≡ map spot l.fn.places.items ++ flat_map (stranger_at l.context l.key (map (λ name. name.now) l.declared)) (map child (take l.index-index l.mappings))
