use Rattle.sv_host.proofs.Prelude.{CarryOn, ◌≡◌, GathersFor, inputs_of, others_in, clients_of, HasGathered}
use Rattle.sv_host.proofs.server.Server.hold_wants.Given as goal

-- no group has been given to the node meanwhile, and what is no want is there still
abbrev pub invariant-loop-done : goal.invariant-loop-done
invariant-loop-done l = record {
  gathered : HasGathered l.initial.group l.group;
  clients : GathersFor l.initial.group l.group (clients_of l.initial.self.parked) (clients_of l.self.parked);
  others : others_in (inputs_of l.group) ≡ others_in (inputs_of l.initial.group);
  carried : CarryOn l.initial.self.connections l.self.connections;
}
