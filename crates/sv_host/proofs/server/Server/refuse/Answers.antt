use Rattle.sv_host.proofs.DeedLemmas.{answers_story, carry_told}
use Rattle.sv_host.proofs.Prelude.{naming_of, Answers, refused_as}
use Rattle.sv_host.proofs.server.Server.refuse.Goals as goal

-- who waits under the number is refused, and nobody else
pub returns-in-Some-clause-carried : goal.returns-in-Some-clause-carried
returns-in-Some-clause-carried c =
    carry_told (λ manner was held. Answers (refused_as (naming_of c.args.self.now.connections) c.args.cause manner) c.args.now was held) c.in-Some.place c.args.token (record c.args.self.now.connections { report = c.note.new.self }) c.refuse.new.self c.refuse.ensures.nobody
    (λ manner was held listened told. answers_story (refused_as (naming_of c.args.self.now.connections) c.args.cause manner) c.args.now was held listened told) c.refuse.ensures.refused c.refuse.ensures.others
