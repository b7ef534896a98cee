use Rattle.sv_config.proofs.Prelude.{◌≡◌, map, take, table_view}
use Rattle.sv_config.specs.Values as spec
use Rattle.sv_config.proofs.context.contexts_of.Given as goal

abbrev pub invariant-loop-table : goal.invariant-loop-table
invariant-loop-table l =
    map spec.context_data l.contexts.items ≡ map spec.context_of (map (λ t. table_view t.now) (take l.table-index l.tables))
