use Rattle.test_rows.specs.Staged.{IsStaged}
use Rattle.test_rows.proofs.dispatches.add_servlets.Given as goal

-- the servlets so far are ready
abbrev pub invariant-loop-row : goal.invariant-loop-row
invariant-loop-row l = IsStaged l.stage
