use Rattle.std.proofs.Common.{subst}
use Rattle.sv_solo.proofs.Prelude.{Response, is_closed, IsSaid, Answered}
use Rattle.sv_solo.proofs.answer.say_refusal.Goals as goal

pub returns-in-Ok-clause-said : goal.returns-in-Ok-clause-said
returns-in-Ok-clause-said g c =
    let was = g.W.Write.contents c.args.writer.now in
    let now = g.W.Write.contents c.say.new.writer in
    subst (λ (r : Response). IsSaid r c.args.manner.now Answered was now (is_closed c.say.new.connection) c.say.result) c.in-Ok.ensures c.say.ensures.said
