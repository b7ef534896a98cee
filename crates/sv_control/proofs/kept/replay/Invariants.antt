use Rattle.sv_control.specs.Kept.{FitNowhere}
use Rattle.sv_control.proofs.kept.replay.Given as goal

abbrev pub invariant-loop-node : goal.invariant-loop-node
invariant-loop-node l = FitNowhere l.node l.records
