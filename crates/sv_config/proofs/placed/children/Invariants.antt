use Rattle.sv_config.proofs.Prelude.{◌≡◌, ◌++◌, map, drop, table_view, view}
use Rattle.sv_config.specs.Place as spec
use Rattle.sv_config.proofs.placed.children.Given as goal

abbrev pub invariant-loop-index : goal.invariant-loop-index
invariant-loop-index l =
    map spec.child l.tables.items ++ spec.numbered l.index (map view (drop l.index l.value-items)) ≡ spec.children l.key (table_view l.table)
