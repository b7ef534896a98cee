use Rattle.sv_host.proofs.Prelude.{CarryOn, HaveClients, before_of, IsRising, clients_of, GoesOn, RunsWithoutLoss}
use Rattle.std.specs.Prelude.{◌≡◌}
use Rattle.sv_node.specs.Node.{IsNode}
use Rattle.sv_host.proofs.event_loop.run.Given as goal

-- groups have been given to the node
abbrev pub invariant-loop-turn : goal.invariant-loop-turn
invariant-loop-turn g l = record {
  valid : IsNode g.E.Engine.valid g.D.Disk.tells g.D.Disk.seen g.D.Disk.may_leave l.node;
  rising : IsRising l.group;
  clients : HaveClients (clients_of l.server.parked) l.node l.group;
  goes : GoesOn g.E.Engine.meaning g.E.Engine.heard g.D.Disk.tells 0 (before_of l.group) l.initial.node l.node;
  runs : RunsWithoutLoss g.E.Engine.meaning g.D.Disk.tells g.D.Disk.seen g.D.Disk.may_leave g.D.Disk.moment g.D.Disk.left_since 0 l.initial.node l.node;
  turns : l.turns ≡ l.turn;
  carried : CarryOn l.initial.server.connections l.server.connections;
}
