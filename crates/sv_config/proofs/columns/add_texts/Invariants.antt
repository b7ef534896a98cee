use Rattle.sv_config.proofs.Prelude.{◌≡◌, ◌++◌, map, drop, filter_map, table_view, view}
use Rattle.toml.specs.Data.{as_str}
use Rattle.sv_config.specs.Document as spec
use Rattle.sv_config.proofs.columns.add_texts.Given as goal

abbrev pub invariant-loop-value : goal.invariant-loop-value
invariant-loop-value l =
    map (λ s. s.now) l.texts.items ++ filter_map as_str (map view (drop l.value-index l.value-items)) ≡ map (λ s. s.now) l.fn.texts.items ++ spec.texts_at l.key (table_view l.table)
