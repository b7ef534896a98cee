use Rattle.sv_host.proofs.Prelude.{CarryOn, GathersFor, HasMoreWants, clients_of, HasGathered}
use Rattle.sv_host.proofs.server.Server.release.Given as goal

-- no group has been given to the node meanwhile, and what was added are wants
abbrev pub invariant-loop : goal.invariant-loop
invariant-loop l = record {
  gathered : HasGathered l.initial.group l.group;
  more : HasMoreWants l.initial.group l.group;
  clients : GathersFor l.initial.group l.group (clients_of l.initial.self.parked) (clients_of l.self.parked);
  carried : CarryOn l.initial.self.connections l.self.connections;
}
