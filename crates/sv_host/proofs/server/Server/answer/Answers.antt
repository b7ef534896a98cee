use Rattle.sv_host.proofs.DeedLemmas.{carry_told, tells_story}
use Rattle.sv_host.proofs.Prelude.{Tells}
use Rattle.sv_host.proofs.server.Server.answer.Goals as goal

-- who waits under the number is told, and nobody else
pub returns-in-Some-clause-carried : goal.returns-in-Some-clause-carried
returns-in-Some-clause-carried c =
    carry_told (λ _ was held. Tells c.args.response.now c.args.now was held) c.in-Some.place c.args.token c.args.self.now.connections c.answer.new.self c.answer.ensures.nobody
    (λ manner was held listened told. tells_story c.args.response.now c.args.now was held listened told) c.answer.ensures.answered c.answer.ensures.others
