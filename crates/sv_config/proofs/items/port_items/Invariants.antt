use Rattle.sv_config.proofs.Prelude.{◌≡◌, ◌++◌, map, drop, codes, view, spot, placed}
use Rattle.sv_config.specs.Repeats.{integers_from, port_items}
use Rattle.sv_config.proofs.items.port_items.Given as goal

abbrev pub invariant-loop-index : goal.invariant-loop-index
invariant-loop-index l =
    map (λ i. (i.0, spot i.1)) l.items.items ++ integers_from l.at.place (codes "ports") l.index (map view (drop l.index l.value-items)) ≡ port_items (placed l.at)
