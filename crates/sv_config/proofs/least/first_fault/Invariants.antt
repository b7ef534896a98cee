use Rattle.sv_config.proofs.Prelude.{◌≡◌, map, drop, placed}
use Rattle.sv_config.specs.Fault as spec
use Rattle.sv_config.proofs.least.first_fault.Given as goal

abbrev pub invariant-loop-fault : goal.invariant-loop-fault
invariant-loop-fault l = spec.first_fault l.faults (map placed l.tables) ≡ spec.first_fault (drop l.fault-index l.faults) (map placed l.tables)
