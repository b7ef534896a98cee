use Rattle.test_world.specs.Stage.{IsStaged}
use Rattle.test_world.proofs.faults.expect_torn.Given as goal

abbrev pub invariant-loop-node : goal.invariant-loop-node
invariant-loop-node g l = IsStaged l.world
