use Rattle.sv_config.proofs.Prelude.{◌≡◌, ◌++◌, map, drop, filter_map, table_view, view}
use Rattle.toml.specs.Data.{as_integer}
use Rattle.sv_config.specs.Document as spec
use Rattle.sv_config.proofs.columns.integers_at.Given as goal

abbrev pub invariant-loop-value : goal.invariant-loop-value
invariant-loop-value l =
    l.integers.items ++ filter_map as_integer (map view (drop l.value-index l.value-items)) ≡ spec.integers_at l.key (table_view l.table)
