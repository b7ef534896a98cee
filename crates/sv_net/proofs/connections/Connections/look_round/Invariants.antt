use Rattle.sv_net.proofs.Prelude.{AllContinue}
use Rattle.sv_net.proofs.connections.Connections.look_round.Given as goal

-- all go on who haven't taken too long
abbrev pub invariant-loop-place : goal.invariant-loop-place
invariant-loop-place l = AllContinue l.fn.self l.self
