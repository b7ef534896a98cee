use Rattle.sv_config.proofs.Prelude.{◌≡◌, ◌++◌, map, drop, codes, table_view, view, spot}
use Rattle.sv_config.specs.Document.{values_at}
use Rattle.sv_config.specs.Repeats.{texts_from}
use Rattle.sv_config.proofs.items.add_patterns.Given as goal

abbrev pub invariant-loop-index : goal.invariant-loop-index
invariant-loop-index l =
    map (λ i. (i.0.now, spot i.1)) l.items.items ++ texts_from l.place (codes "patterns") l.index (map view (drop l.index l.value-items))
    ≡ map (λ i. (i.0.now, spot i.1)) l.fn.items.items ++ texts_from l.place (codes "patterns") 0 (values_at (codes "patterns") (table_view l.servlet))
