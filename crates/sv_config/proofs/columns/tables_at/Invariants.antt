use Rattle.sv_config.proofs.Prelude.{◌≡◌, ◌++◌, map, drop, filter_map, table_view, view}
use Rattle.toml.specs.Data.{as_table}
use Rattle.sv_config.specs.Document as spec
use Rattle.sv_config.proofs.columns.tables_at.Given as goal

abbrev pub invariant-loop-value : goal.invariant-loop-value
invariant-loop-value l =
    map (λ t. table_view t.now) l.tables.items ++ filter_map as_table (map view (drop l.value-index l.value-items)) ≡ spec.tables_at l.key (table_view l.table)
