use Rattle.sv_net.proofs.Prelude.{ℕ, List, ◌∙◌, subst, IfSome, Part, came_of, went_of, held_at, Says}
use Rattle.sv_net.proofs.connections.Connections.refuse_for_memory.Goals as goal

pub returns-in-Ok-clause-said : goal.returns-in-Ok-clause-said
returns-in-Ok-clause-said c = λ none.
    subst (λ (text : List ℕ). IfSome (held_at c.say.new.self c.args.place) (λ held. Says text Part (went_of c.args.socket) (came_of c.args.socket) held))
    (c.in-Ok.ensures.items ∙ c.memory_lines.ensures) (c.say.ensures.said none)
