use Rattle.sv_config.proofs.Prelude.{◌≡◌, map, take, table_view}
use Rattle.sv_config.specs.Values as spec
use Rattle.sv_config.proofs.mappings.filter_mappings_of.Given as goal

abbrev pub invariant-loop-table : goal.invariant-loop-table
invariant-loop-table l =
    l.mappings.items ≡ map (spec.filter_mapping_of (map (λ name. name.now) l.filters) (map (λ name. name.now) l.servlets)) (map (λ t. table_view t.now) (take l.table-index l.tables))
