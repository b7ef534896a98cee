use Rattle.std.specs.Prelude.{◌≡◌, ◌≤◌, length, map, take}
use Rattle.std.specs.List.{All}
use Rattle.sv_node.proofs.Prelude.{payloads, spelling, Spell}
use Rattle.sv_node.proofs.compaction.payloads_of.Given as goal

abbrev pub invariant-loop-entry : goal.invariant-loop-entry
invariant-loop-entry l = record {
  bytes : payloads l.found.items ≡ map spelling (take l.entry-index l.records);
  spelled : Spell (payloads l.found.items) (take l.entry-index l.records);
  size : All (λ payload. length payload.items ≤ 524288) l.found.items;
}
