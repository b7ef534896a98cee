use Rattle.sv_net.proofs.Prelude.{ap, sym, ◌∙◌}
use Rattle.sv_connection.specs.Reply.{refusal_by}
use Rattle.sv_net.proofs.SayingLemmas.{refusal_holds, starved_holds}
use Rattle.sv_net.proofs.connections.Connections.refuse.Goals as goal

pub returns-in-Ok-clause-refused : goal.returns-in-Ok-clause-refused
returns-in-Ok-clause-refused c =
    refusal_holds c.args.self.now.naming c.args.cause c.args.now (c.in-Some.head_only, c.in-Some.close) c.in-Ok.response _ _ _ (sym c.manner_at.ensures ∙ c.in-Some.is)
    (c.in-Ok.ensures ∙ ap (refusal_by c.args.self.now.naming c.args.cause c.in-Some.head_only) c.closes.ensures) c.answer.ensures.answered

pub returns-in-Err-clause-refused : goal.returns-in-Err-clause-refused
returns-in-Err-clause-refused c =
    starved_holds c.args.self.now.naming c.args.cause c.args.now c.args.token _ (c.in-Some.head_only, c.in-Some.close) _ (sym c.manner_at.ensures ∙ c.in-Some.is) c.starve.ensures.said
