use Rattle.std.proofs.Common.{ap, ◌∙◌}
use Rattle.sv_message.specs.Stream.{Stream}
use Rattle.sv_connection.proofs.ArriveLemmas.{brings}
use Rattle.sv_connection.proofs.arrive.take_in.Goals as goal

pub returns-in-Ok-clause-brings : goal.returns-in-Ok-clause-brings
returns-in-Ok-clause-brings c =
    brings c.args.requests.now c.feed.new.self c.next.new.self c.args.piece.now c.next.result c.requires c.in-Ok.ensures.ok c.next.ensures.next

pub returns-in-Ok-clause-found : goal.returns-in-Ok-clause-found
returns-in-Ok-clause-found c = λ raw text rest message is.
    c.next.ensures.found raw text rest (ap (λ (s : Stream). s.closed) c.in-Ok.ensures.ok ∙ c.requires) message (ap (λ (s : Stream). s.rest) c.in-Ok.ensures.ok ∙ is)
