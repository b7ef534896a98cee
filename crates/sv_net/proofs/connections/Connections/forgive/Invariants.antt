use Rattle.sv_net.proofs.Prelude.{AllContinue}
use Rattle.sv_net.proofs.connections.Connections.forgive.Given as goal

abbrev pub invariant-loop-place : goal.invariant-loop-place
invariant-loop-place l = AllContinue l.fn.self l.self
