use Rattle.std.proofs.Common.{◌≡◌, ◌≤◌, ◌-◌, length, drop, min}
use Rattle.sv_journal.specs.Disk.{IsQuiet}
use Rattle.sv_journal.specs.Format.{Begins, payloads}
use Rattle.sv_journal.proofs.reading.read_entries.Given as goal

abbrev pub invariant-loop-entries : goal.invariant-loop-entries
invariant-loop-entries g l =
    let d = g.D.Disk in
    record {
      quiet : IsQuiet d.tells d.seen d.may_leave d.moment d.left_since l.initial.disk l.disk;
      count : d.failed l.disk ≡ d.failed l.initial.disk;
      within : l.at ≤ l.len;
      room : min (l.len - l.at) 1048576 ≤ length l.buffer.items;
      begins : d.tells l.initial.disk → Begins (drop 16 (d.seen l.initial.disk)) (payloads l.entries.items) (drop l.at (d.seen l.initial.disk));
    }

abbrev pub decreases-loop-entries : goal.decreases-loop-entries
decreases-loop-entries g l = l.len - l.at
