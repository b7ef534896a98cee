use Rattle.sv_host.proofs.Prelude.{CarryOn, drop, RefusesAll, Server}
use Rattle.sv_host.proofs.server.Server.refuse_all.Given as goal

-- whoever refuses those that are left has refused all
abbrev pub invariant-loop-way : goal.invariant-loop-way
invariant-loop-way l = record {
  refused : (final : Server) → RefusesAll (drop l.way-index l.ways) l.fault l.now l.self final → RefusesAll l.ways l.fault l.now l.initial.self final;
  carried : CarryOn l.initial.self.connections l.self.connections;
}
