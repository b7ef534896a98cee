use Rattle.sv_net.proofs.Prelude.{AllContinue}
use Rattle.sv_net.proofs.acceptor.Acceptor.ask_poll.Given as goal

-- whoever isn't closed goes on
abbrev pub invariant-loop-event : goal.invariant-loop-event
invariant-loop-event l = AllContinue l.fn.connections l.connections
