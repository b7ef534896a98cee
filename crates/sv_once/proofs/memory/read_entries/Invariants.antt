use Rattle.std.proofs.Common.{◌≡◌, ◌++◌}
use Rattle.sv_once.specs.Entries.{entries_in}
use Rattle.sv_once.proofs.memory.read_entries.Given as goal

-- the entries so far, and those that are left
abbrev pub invariant-loop-left : goal.invariant-loop-left
invariant-loop-left l = l.entries.items ++ entries_in l.left l.rest ≡ entries_in 16 l.fn.bytes

abbrev pub decreases-loop-left : goal.decreases-loop-left
decreases-loop-left l = l.left
