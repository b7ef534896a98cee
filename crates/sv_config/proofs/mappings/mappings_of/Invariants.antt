use Rattle.sv_config.proofs.Prelude.{◌≡◌, map, drop, table_view}
use Rattle.std.specs.FinMap as finite
use Rattle.sv_config.specs.Values as spec
use Rattle.sv_config.proofs.mappings.mappings_of.Given as goal

abbrev pub invariant-loop-place : goal.invariant-loop-place
invariant-loop-place l =
    spec.mapped_from 0 (map (λ t. table_view t.now) l.servlets) finite.empty
    ≡ spec.mapped_from l.place (map (λ t. table_view t.now) (drop l.place l.servlets)) l.mappings
