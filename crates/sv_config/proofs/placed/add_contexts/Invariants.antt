use Rattle.sv_config.proofs.Prelude.{◌≡◌, ◌++◌, map, take, flat_map}
use Rattle.sv_config.specs.Place as spec
use Rattle.sv_config.proofs.placed.add_contexts.Given as goal

abbrev pub invariant-loop-number : goal.invariant-loop-number
invariant-loop-number l =
    map spec.placed l.tables.items ≡ map spec.placed l.fn.tables.items ++ flat_map spec.placed_in (map spec.child (take l.number-index l.contexts))
