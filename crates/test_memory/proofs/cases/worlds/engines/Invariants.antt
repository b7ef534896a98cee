use Rattle.std.proofs.Common.{◌≡◌, length}
use Rattle.test_memory.proofs.cases.worlds.engines.Given as goal

abbrev pub invariant-loop-count : goal.invariant-loop-count
invariant-loop-count l = length l.engines.items ≡ l._count
