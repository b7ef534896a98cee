use Rattle.sv_config.proofs.Prelude.{◌≡◌, ◌++◌, map, take}
use Rattle.sv_config.specs.Place as spec
use Rattle.sv_config.proofs.placed.add_inner.Given as goal

abbrev pub invariant-loop-index : goal.invariant-loop-index
invariant-loop-index l =
    map spec.placed l.tables.items ≡ map spec.placed l.fn.tables.items ++ spec.placed_as l.context l.kind (map spec.child (take l.index-index l.inner))
