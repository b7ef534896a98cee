use Rattle.sv_config.proofs.Prelude.{◌≡◌, ◌+◌, map, drop, table_view}
use Rattle.sv_config.specs.Values as spec
use Rattle.sv_config.proofs.mappings.add_files.Given as goal

abbrev pub invariant-loop-number : goal.invariant-loop-number
invariant-loop-number l =
    spec.with_files l.first (map (λ t. table_view t.now) l.files) l.fn.mappings
    ≡ spec.with_files (l.first + l.number) (map (λ t. table_view t.now) (drop l.number l.files)) l.mappings
