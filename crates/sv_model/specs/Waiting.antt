-- A request that waits for its session, which is asked for, and one that has waited.
use Rattle.std.specs.Prelude.{ℕ, zero, suc, ◌+◌, ◌==◌, ◌||◌, Bool, not, cond, nat_le, Option, Some, None, List, [], ◌∷◌, ◌++◌, map, length}
use Rattle.std.specs.List.{filter}
use Rattle.sv_model.specs.declared.key.Key.{Key}
use Rattle.sv_model.specs.declared.key.Secret.{Secret}
use Rattle.sv_model.specs.declared.key.Moment.{Moment}
use Rattle.sv_model.specs.declared.request.Request.{Request}
use Rattle.sv_model.specs.declared.state.KeyState.{KeyState}
use Rattle.sv_model.specs.declared.packet.Packet.TheVariants.{Want}
use Rattle.sv_model.specs.declared.output.Output.{Output}
use Rattle.sv_model.specs.declared.output.Output.TheVariants.{Send}
use Rattle.sv_model.specs.declared.output.Cause.TheVariants.{TableFull, ParkFull, WantsSpent}
use Rattle.sv_model.specs.declared.state.TheConstants.{PARK_LIMIT}
use Rattle.sv_model.specs.Engine.{EngineMeaning}
use Rattle.sv_model.specs.NodeState.{Setting, Durable, Parked, Node, last_number, known, is_settled, is_dead, is_crowded}
use Rattle.sv_model.specs.Decision.{Decision, idle}
use Rattle.sv_model.specs.Serving.{refused, served}

-- the numbers below n, in order
abbrev pub numbers : ℕ → List ℕ
numbers zero = []
numbers (suc n) = numbers n ++ n ∷ []

-- the other nodes, by number
abbrev pub others : Setting → List ℕ
others set = filter (λ p. not (p == set.node)) (numbers set.nodes)

-- every other node is asked for the session
abbrev pub wants : Setting → Durable → Key → ℕ → List Output
wants set d k want = map (λ p. Send (Want set.node p k d.boot want)) (others set)

-- the request is parked, and its session is asked for
abbrev pub parks : Setting → Node → Moment → ℕ → Request → Key → Decision
parks set n moment token r k =
    record (idle n (wants set n.durable k n.next_want)) {
      parked = n.parked ++ record { token = token; request = r; key = k; since = moment.steady; want = n.next_want } ∷ [];
      next_want = n.next_want + 1;
    }

abbrev pub waits : Setting → Node → Moment → ℕ → Request → Key → Decision
waits set n moment token r k =
    cond (is_crowded set n.durable k) (refused n token TableFull n.parked)
    (cond (nat_le PARK_LIMIT (length n.parked)) (refused n token ParkFull n.parked)
    (cond (n.next_want == last_number) (refused n token WantsSpent n.parked) (parks set n moment token r k)))

abbrev pub on_named : EngineMeaning → Setting → Node → Moment → ℕ → Request → Key → Option KeyState → Decision
on_named m set n moment token r k st =
    cond (is_settled st || is_dead set n.durable k) (served m set n moment token r n.parked) (waits set n moment token r k)

abbrev pub on_ask : EngineMeaning → Setting → Node → Moment → ℕ → Request → Option (Key × Secret) → Decision
on_ask m set n moment token r None = served m set n moment token r n.parked
on_ask m set n moment token r (Some named) = on_named m set n moment token r named.0 (known n.durable named.0)

-- the first that passes, and the list without it
abbrev pub first_of : (Parked → Bool) → List Parked → Option Parked
first_of test [] = None
first_of test (p ∷ ps) = cond (test p) (Some p) (first_of test ps)

abbrev pub without : (Parked → Bool) → List Parked → List Parked
without test [] = []
without test (p ∷ ps) = cond (test p) ps (p ∷ without test ps)

abbrev pub serve_first : EngineMeaning → Setting → Node → Moment → Option Parked → List Parked → Decision
serve_first m set n moment None waiting = idle n []
serve_first m set n moment (Some p) waiting = served m set n moment p.token p.request waiting

-- the first parked request that passes leaves and is served
abbrev pub serve_parked : EngineMeaning → Setting → Node → Moment → (Parked → Bool) → Decision
serve_parked m set n moment test = serve_first m set n moment (first_of test n.parked) (without test n.parked)

abbrev pub on_poke : EngineMeaning → Setting → Node → Moment → Decision
on_poke m set n moment = serve_parked m set n moment (λ p. is_settled (known n.durable p.key))
