use Rattle.sv_config.proofs.Prelude.{◌≡◌, map, take, string_bytes}
use Rattle.sv_config.proofs.paths.paths_of.Given as goal

abbrev pub invariant-loop-context : goal.invariant-loop-context
invariant-loop-context l =
    map string_bytes l.paths.items ≡ map (λ context. string_bytes context.path) (take l.context-index l.contexts)
