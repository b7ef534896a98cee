use Rattle.std.proofs.Common.{◌≡◌, ◌≤◌, ◌-◌}
use Rattle.sv_record.proofs.Prelude.{attributes_size, reads, session_limit, attribute, behind, at_first}
use Rattle.sv_record.proofs.Loop.{with_front}
use Rattle.sv_record.proofs.Names.{UpTo}
use Rattle.sv_record.proofs.attributes.read_each.Given as goal

abbrev pub invariant-loop : goal.invariant-loop
invariant-loop l = record {
  small : attributes_size l.attributes ≤ session_limit l.version;
  rises : UpTo l.last l.attributes;
  read : with_front (attribute l.version) behind l.attributes (reads (attribute l.version) behind (l.count - l.counter) (record { last = l.last; total = attributes_size l.attributes }) l.rest)
      ≡ reads (attribute l.version) behind l.count at_first l.bytes;
}
