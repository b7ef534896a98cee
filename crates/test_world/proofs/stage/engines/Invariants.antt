use Rattle.std.proofs.Common.{◌≡◌, length}
use Rattle.test_world.proofs.stage.engines.Given as goal

abbrev pub invariant-loop-count : goal.invariant-loop-count
invariant-loop-count g l = length l.engines.items ≡ l._count
