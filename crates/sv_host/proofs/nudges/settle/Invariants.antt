use Rattle.sv_host.proofs.Prelude.{CarryOn, ◌≡◌, ◌≤◌, ◌<◌, ◌+◌, [], Ok, length, ⊤, state_of, inputs_of, clients_of, HasServed}
use Rattle.sv_host.proofs.nudges.settle.Given as goal

-- all that was given to the node was taken, and with each group one fewer waits
abbrev pub invariant-loop-done : goal.invariant-loop-done
invariant-loop-done g l = record {
  served : HasServed {T = ⊤} {F = ⊤} g.E.Engine g.D.Disk l.initial.node l.initial.group (clients_of l.server.parked) l.node l.group
      (Ok tt);
  empty : inputs_of l.initial.group ≡ [] → inputs_of l.group ≡ [];
  fewer : inputs_of l.initial.group ≡ [] → length (state_of l.node).parked + l._done ≤ l.most;
  some : 0 < l.count;
  carried : CarryOn l.initial.server.connections l.server.connections;
}
