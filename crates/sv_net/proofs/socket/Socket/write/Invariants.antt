use Rattle.sv_net.proofs.Prelude.{Leaves}
use Rattle.sv_net.proofs.socket.Socket.write.Given as goal

-- what was taken was the front
abbrev pub invariant-loop : goal.invariant-loop
invariant-loop l = Leaves l.initial.self l.self l.initial.text.items l.text.items
