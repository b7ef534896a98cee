use Rattle.sv_net.proofs.Prelude.{sym, ◌∙◌}
use Rattle.sv_net.proofs.PlaceLemmas.{taken_held}
use Rattle.sv_net.proofs.SayingLemmas.{starves}
use Rattle.sv_net.proofs.connections.Connections.starve.Goals as goal

pub returns-in-Some-clause-said : goal.returns-in-Some-clause-said
returns-in-Some-clause-said c =
    starves c.in-Some.open _ c.into_parts-socket.result.0 _ (sym c.take.ensures.taken ∙ c.in-Some.is) c.into_parts-socket.ensures.socket
    (c.refuse_for_memory.ensures.said (taken_held c.args.place c.args.self.now c.take.new.self c.take.ensures.places))
