use Rattle.sv_config.proofs.Prelude.{◌≡◌, ◌++◌, map, drop, table_view}
use Rattle.std.specs.Prelude.{filter, pos}
use Rattle.sv_config.specs.Values as spec
use Rattle.sv_config.proofs.cluster.ports_of.Given as goal

abbrev pub invariant-loop-integer : goal.invariant-loop-integer
invariant-loop-integer l =
    map pos l.ports.items ++ filter spec.is_port (drop l.integer-index l.integer-items) ≡ spec.ports_of (table_view l.table)
