use Rattle.sv_container.proofs.Prelude.{◌≡◌, map, take, string_bytes}
use Rattle.sv_container.specs.Deployment as spec
use Rattle.sv_container.proofs.prepare.paths_of.Given as goal

abbrev pub invariant-loop-context : goal.invariant-loop-context
invariant-loop-context l = map string_bytes l.paths.items ≡ map spec.path_of (take l.context-index l.contexts)
