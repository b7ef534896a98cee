use Rattle.sv_config.proofs.Prelude.{◌≡◌, map, take, flat_map, spot, child}
use Rattle.sv_config.specs.Repeats.{text_item}
use Rattle.sv_config.proofs.items.texts_of.Given as goal

abbrev pub invariant-loop-index : goal.invariant-loop-index
invariant-loop-index l =
    map (λ i. (i.0.now, spot i.1)) l.items.items ≡ flat_map (text_item l.place l.kind l.key) (map child (take l.index-index l.tables))
