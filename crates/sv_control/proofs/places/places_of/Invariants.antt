use Rattle.std.proofs.Common.{◌≡◌, ◌++◌, drop}
use Rattle.sv_control.specs.Places.{FIRST, places_from}
use Rattle.sv_journal.specs.Format.{payloads}
use Rattle.sv_control.proofs.places.places_of.Given as goal

abbrev pub invariant-loop-payload : goal.invariant-loop-payload
invariant-loop-payload l = l.places.items ++ places_from l.offset (payloads (drop l.payload-index l.entries)) ≡ places_from FIRST (payloads l.entries)
