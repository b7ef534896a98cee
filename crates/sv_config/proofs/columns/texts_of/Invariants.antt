use Rattle.sv_config.proofs.Prelude.{◌≡◌, ◌++◌, map, drop, filter_map, table_view}
use Rattle.sv_config.specs.Document as spec
use Rattle.sv_config.proofs.columns.texts_of.Given as goal

abbrev pub invariant-loop-table : goal.invariant-loop-table
invariant-loop-table l =
    map (λ s. s.now) l.texts.items ++ filter_map (spec.text_at l.key) (map (λ t. table_view t.now) (drop l.table-index l.tables)) ≡ filter_map (spec.text_at l.key) (map (λ t. table_view t.now) l.tables)
