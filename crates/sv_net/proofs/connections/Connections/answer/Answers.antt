use Rattle.sv_net.proofs.Prelude.{ℕ, List, ap, sym, ◌∙◌, subst, held_by, came_of, went_of, unread, unsent, HearsNext, Says, Tells}
use Rattle.sv_net.proofs.PlaceLemmas.{holds_more, taken_held}
use Rattle.sv_net.proofs.SayingLemmas.{answer_text, tells_at, tells_one}
use Rattle.sv_net.proofs.connections.Connections.answer.Goals as goal

-- what is said is the text that was made
pub returns-in-Answered-clause-answered : goal.returns-in-Answered-clause-answered
returns-in-Answered-clause-answered c =
    let response = c.args.response.now in
    let now = c.args.now in
    let one = c.in-Some.open in
    let socket = c.into_parts-socket.result.0 in
    let text = c.answer.new.writer.items in
    let next = c.next.result in
    let state = sym c.into_parts-socket.ensures.state ∙ c.in-Waiting.is in
    let is_text = answer_text response now c.clear.new.self.items text c.answer.result _ _ c.clear.ensures.items c.in-Answered.is c.answer.ensures.answered in
    tells_at (λ was held. Tells response now was held) _ _ one _ (sym c.take.ensures.taken ∙ c.in-Some.is)
    (holds_more (Says text next (went_of socket) (came_of socket)) (Tells response now one)
    (λ held says. tells_one response now one held socket (held_by c.in-Waiting.client.connection) text next c.into_parts-socket.ensures.socket (ap unsent state) (ap unread state)
    (subst (λ (xs : List ℕ). HearsNext xs next) c.answer.ensures.held c.next.ensures) is_text says) _
    (c.say.ensures.said (taken_held c.args.place c.args.self.now c.take.new.self c.take.ensures.places)))
