use Rattle.sv_host.proofs.Prelude.{CarryOn, GathersFor, HasMore, clients_of, HasGathered}
use Rattle.sv_host.proofs.gathering.gather_door.Given as goal

-- no group has been given to the node meanwhile, what was gathered stands after what was there, and has its clients
abbrev pub invariant-loop : goal.invariant-loop
invariant-loop l = record {
  gathered : HasGathered l.initial.group l.group;
  more : HasMore l.initial.group l.group;
  clients : GathersFor l.initial.group l.group (clients_of l.initial.server.parked) (clients_of l.server.parked);
  carried : CarryOn l.initial.server.connections l.server.connections;
}
