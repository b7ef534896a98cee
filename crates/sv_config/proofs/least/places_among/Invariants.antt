use Rattle.sv_config.proofs.Prelude.{◌≡◌, map, take, spot, placed}
use Rattle.sv_config.specs.Fault.{places_among}
use Rattle.sv_config.proofs.least.places_among.Given as goal

abbrev pub invariant-loop-table : goal.invariant-loop-table
invariant-loop-table l = map spot l.places.items ≡ places_among (map placed (take l.table-index l.tables)) l.fault
