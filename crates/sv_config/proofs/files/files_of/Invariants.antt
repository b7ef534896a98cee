use Rattle.sv_config.proofs.Prelude.{◌≡◌, map, take, table_view}
use Rattle.sv_config.specs.Values as spec
use Rattle.sv_config.proofs.files.files_of.Given as goal

abbrev pub invariant-loop-table : goal.invariant-loop-table
invariant-loop-table l =
    map spec.file_data l.files.items ≡ map spec.file_of (map (λ t. table_view t.now) (take l.table-index l.tables))
