use Rattle.test_memory.specs.Staged.{IsStaged}
use Rattle.test_memory.proofs.cases.worlds.steps.Given as goal

abbrev pub invariant-loop-act : goal.invariant-loop-act
invariant-loop-act l = IsStaged l.world
