use Rattle.test_world.specs.Stage.{IsStaged}
use Rattle.test_world.proofs.faults.expect_events.Given as goal

abbrev pub invariant-loop-place : goal.invariant-loop-place
invariant-loop-place g l = IsStaged l.world
