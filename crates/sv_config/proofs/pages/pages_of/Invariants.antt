use Rattle.sv_config.proofs.Prelude.{◌≡◌, map, take, table_view}
use Rattle.sv_config.specs.Values as spec
use Rattle.sv_config.proofs.pages.pages_of.Given as goal

abbrev pub invariant-loop-table : goal.invariant-loop-table
invariant-loop-table l =
    map spec.page_data l.pages.items ≡ map spec.page_of (map (λ t. table_view t.now) (take l.table-index l.tables))
