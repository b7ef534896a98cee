use Rattle.sv_host.proofs.Prelude.{CarryOn, Ok, ⊤, clients_of, HasServed}
use Rattle.sv_host.proofs.nudges.expire.Given as goal

-- all that was given to the node was taken
abbrev pub invariant-loop : goal.invariant-loop
invariant-loop g l = record {
  served : HasServed {T = ⊤} {F = ⊤} g.E.Engine g.D.Disk l.initial.node l.initial.group (clients_of l.server.parked) l.node l.group (Ok tt);
  carried : CarryOn l.initial.server.connections l.server.connections;
}
