use Rattle.sv_host.proofs.Prelude.{CarryOn, ◌≤◌, GathersFor, HasNudges, clients_of, HasGathered, steady_of}
use Rattle.sv_host.proofs.nudges.add_nudges.Given as goal

-- no group has been given to the node meanwhile, and so many were added
abbrev pub invariant-loop-done : goal.invariant-loop-done
invariant-loop-done l = record {
  gathered : HasGathered l.initial.group l.group;
  has : HasNudges l.nudges.nudge (steady_of l.initial.server.time) l._done l.initial.group l.group;
  clients : GathersFor l.initial.group l.group (clients_of l.initial.server.parked) (clients_of l.server.parked);
  later : steady_of l.initial.server.time ≤ steady_of l.server.time;
  carried : CarryOn l.initial.server.connections l.server.connections;
}
