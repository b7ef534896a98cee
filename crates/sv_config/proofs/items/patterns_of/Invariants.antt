use Rattle.sv_config.proofs.Prelude.{◌≡◌, map, take, flat_map, spot, child}
use Rattle.sv_config.specs.Repeats.{patterns_in}
use Rattle.sv_config.proofs.items.patterns_of.Given as goal

abbrev pub invariant-loop-index : goal.invariant-loop-index
invariant-loop-index l =
    map (λ i. (i.0.now, spot i.1)) l.items.items ≡ flat_map (patterns_in l.place) (map child (take l.index-index l.servlets))
