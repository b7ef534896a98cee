use Rattle.std.proofs.Common.{◌≡◌, ◌≤◌, All, length, map, take}
use Rattle.sv_journal.specs.Format.{payloads}
use Rattle.sv_journal.specs.declared.limits.TheConstants.{PAYLOAD_LIMIT}
use Rattle.sv_record.specs.Record.{spelling}
use Rattle.sv_control.proofs.gone.payloads_of_all.Given as goal

abbrev pub invariant-loop-entry : goal.invariant-loop-entry
invariant-loop-entry l = record {
  bytes : payloads l.all.items ≡ map spelling (take l.entry-index l.records);
  size : All (λ payload. length payload.items ≤ PAYLOAD_LIMIT) l.all.items;
}
