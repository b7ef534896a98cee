use Rattle.std.proofs.Common.{◌≡◌, ◌≤◌, ◌+◌, ◌-◌, ◌++◌, List, ℕ, length, drop}
use Rattle.sv_journal.specs.Format.{Begins, payloads}
use Rattle.sv_journal.proofs.reading.gather.Given as goal

abbrev pub invariant-loop-rest : goal.invariant-loop-rest
invariant-loop-rest l = record {
  within : length l.rest ≤ length l.piece;
  same : l.remaining + length l.piece ≡ l.left + length l.rest;
  part : l.rest ≡ drop (length l.piece - length l.rest) l.piece;
  begins : (bytes more : List ℕ) → Begins bytes (payloads l.fn.entries.items) (l.piece ++ more) → Begins bytes (payloads l.entries.items) (l.rest ++ more);
}

abbrev pub decreases-loop-rest : goal.decreases-loop-rest
decreases-loop-rest l = length l.rest
