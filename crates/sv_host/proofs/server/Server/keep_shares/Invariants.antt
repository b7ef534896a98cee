use Rattle.sv_host.proofs.Prelude.{CarryOn, ◌≡◌, ◌≤◌, ◌+◌, length, durable_of, engine_of, setting_of, GathersFor, inputs_of, clients_of, awaited_by, left_of}
use Rattle.sv_host.proofs.Prelude.{HasGathered}
use Rattle.sv_host.proofs.RoomLemmas.{left_from}
use Rattle.sv_host.proofs.server.Server.keep_shares.Given as goal

-- no group has been given to the node meanwhile, and what has been looked at of it stays or was left out
abbrev pub invariant-loop-done : goal.invariant-loop-done
invariant-loop-done g l = record {
  gathered : HasGathered l.initial.group l.group;
  clients : GathersFor l.initial.group l.group (clients_of l.initial.self.parked) (clients_of l.self.parked);
  kept : left_from (awaited_by (g.E.Engine.meaning (engine_of l.node)) (setting_of l.node) (durable_of l.node)) l.at l.room (inputs_of l.group)
      ≡ left_of (awaited_by (g.E.Engine.meaning (engine_of l.node)) (setting_of l.node) (durable_of l.node)) l.initial.room (inputs_of l.initial.group);
  long : length (inputs_of l.group) + l._done ≡ l.at + length (inputs_of l.initial.group);
  at : l.at ≤ l._done;
  carried : CarryOn l.initial.self.connections l.self.connections;
}
