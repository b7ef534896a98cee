use Rattle.sv_host.proofs.Prelude.{CarryOn, KeepsAll, clients_of}
use Rattle.sv_host.proofs.serve.serve.Given as goal

-- whoever waits goes on waiting
abbrev pub invariant-loop : goal.invariant-loop
invariant-loop l = record {
  clients : KeepsAll (clients_of l.initial.server.parked) (clients_of l.server.parked);
  carried : CarryOn l.initial.server.connections l.server.connections;
}
