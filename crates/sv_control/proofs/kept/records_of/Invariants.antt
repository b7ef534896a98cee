use Rattle.std.proofs.Common.{◌≡◌, Ok, map, take}
use Rattle.sv_journal.specs.Format.{payloads}
use Rattle.sv_record.specs.Record.{record_of}
use Rattle.sv_control.proofs.kept.records_of.Given as goal

abbrev pub invariant-loop-place : goal.invariant-loop-place
invariant-loop-place l = map record_of (payloads (take l.place l.entries)) ≡ map Ok l.records.items
