use Rattle.sv_host.proofs.Prelude.{CarryOn, ◌≡◌, length, into_iter_items, into_iter_len, HandsOnAll, AreSendable, sending_end, Server}
use Rattle.sv_host.proofs.server.Server.hand_on.Given as goal

-- what is left can be sent, and whoever hands it on has handed on all, and leaves the round as all do
abbrev pub invariant-loop-output : goal.invariant-loop-output
invariant-loop-output l = record {
  sendable : AreSendable (into_iter_items l.output-iterator);
  long : into_iter_len l.output-iterator ≡ length (into_iter_items l.output-iterator);
  handed : (final : Server) → HandsOnAll (into_iter_items l.output-iterator) l.now l.self final
      → HandsOnAll (into_iter_items l.initial.output-iterator) l.now l.initial.self final;
  round : l.self.round ≡ l.initial.self.round;
  ends : sending_end l.sending (into_iter_items l.output-iterator) ≡ sending_end l.initial.sending (into_iter_items l.initial.output-iterator);
  carried : CarryOn l.initial.self.connections l.self.connections;
}
