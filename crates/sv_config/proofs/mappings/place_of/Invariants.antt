use Rattle.sv_config.proofs.Prelude.{◌≡◌, ◌+◌, map, drop}
use Rattle.sv_config.specs.Values as spec
use Rattle.sv_config.proofs.mappings.place_of.Given as goal

abbrev pub invariant-loop-place : goal.invariant-loop-place
invariant-loop-place l =
    spec.place_of l.name (map (λ its. its.now) l.names) ≡ l.place + spec.place_of l.name (map (λ its. its.now) (drop l.place l.names))
