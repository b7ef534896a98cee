use Rattle.sv_host.proofs.Prelude.{CarryOn, ◌≡◌, ◌+◌, ◌<◌, ◌^◌, length, AllByRecursion, into_iter_items, into_iter_len, HandsOutFrom, last_taken, IsHandedOn}
use Rattle.sv_host.proofs.Prelude.{Quiet, Server}
use Rattle.sv_host.proofs.server.Server.hand_out_all.Given as goal

-- what is left can be sent, and whoever hands it out has handed out all
abbrev pub invariant-loop-answer : goal.invariant-loop-answer
invariant-loop-answer l = record {
  sendable : AllByRecursion (λ a. IsHandedOn a) (into_iter_items l.answer-iterator);
  long : into_iter_len l.answer-iterator ≡ length (into_iter_items l.answer-iterator);
  count : l.place + into_iter_len l.answer-iterator < 2 ^ 64;
  handed : (final : Server) → HandsOutFrom l.place l.ways (into_iter_items l.answer-iterator) l.now l.self final
      → HandsOutFrom 0 l.ways (into_iter_items l.initial.answer-iterator) l.now l.initial.self final;
  taken : last_taken Quiet (into_iter_items l.initial.answer-iterator) ≡ last_taken l.taken (into_iter_items l.answer-iterator);
  carried : CarryOn l.initial.self.connections l.self.connections;
}
