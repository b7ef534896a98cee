use Rattle.std.proofs.Common.{◌≡◌, ◌++◌, take}
use Rattle.std.specs.List.{flat_map}
use Rattle.sv_once.specs.Entries.{entry_bytes}
use Rattle.sv_once.proofs.memory.write_entries.Given as goal

-- the bytes of the entries so far
abbrev pub invariant-loop-entry : goal.invariant-loop-entry
invariant-loop-entry l = l.out.items ≡ l.fn.out.items ++ flat_map entry_bytes (take l.entry-index l.entries)
