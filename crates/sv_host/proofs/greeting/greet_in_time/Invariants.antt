use Rattle.sv_host.proofs.Prelude.{CarryOn, ◌≡◌}
use Rattle.sv_host.proofs.greeting.greet_in_time.Given as goal

-- nobody waits less
abbrev pub invariant-loop-to : goal.invariant-loop-to
invariant-loop-to g l = record {
  clients : l.server.parked ≡ l.initial.server.parked;
  carried : CarryOn l.initial.server.connections l.server.connections;
}
