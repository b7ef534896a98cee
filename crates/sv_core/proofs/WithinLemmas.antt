-- The numbers after a decision are numbers still.
use Rattle.sv_core.proofs.Prelude.{◌≡◌, ℕ, ◌+◌, ◌≤◌, Bool, true, false, cond, Option, Some, None, List, [], arith, refl, ◌==◌, ◌||◌, nat_le, eqb-false}
use Rattle.sv_core.proofs.Prelude.{cond_both, entries, Key, Secret, Moment, Setting, Parked, Request, Session, KeyState, Active, Sent, Gone, Ended, Outcome}
use Rattle.sv_core.proofs.Prelude.{Birth, Packet, EngineMeaning, first_over, expire, on_tick, decided, IsWithin, Entry, Absent, Alive, Want, Node, last_number}
use Rattle.sv_core.proofs.Prelude.{is_settled, is_unmade, epoch_in, Decision, idle, next_with, served, first_of, without, serve_first, serve_parked, is_wanted}
use Rattle.std.specs.Prelude.{length}
use Rattle.sv_model.specs.declared.state.TheConstants.{PARK_LIMIT}
use Rattle.sv_model.specs.declared.outcome.Birth.TheVariants.{Ended as BirthEnded}
use Rattle.sv_model.specs.declared.packet.Packet.TheVariants.{Grant, Ack, No}
use Rattle.sv_model.specs.declared.input.Input.{Input}
use Rattle.sv_model.specs.declared.input.Input.TheVariants.{Ask, Packet as Incoming, Poke, Tick, Move}
use Rattle.sv_model.specs.declared.output.Cause.{Cause}
use Rattle.sv_model.specs.declared.output.Cause.TheVariants.{SerialsSpent, TableFull, ParkFull, WantsSpent}
use Rattle.sv_model.specs.NodeState.{known, is_dead, lacks_room, is_crowded}
use Rattle.sv_model.specs.Decision.{with_record}
use Rattle.sv_model.specs.Serving.{no_birth, answer_of, answered_unless, refused}
use Rattle.sv_model.specs.Waiting.{on_ask, waits, parks}
use Rattle.sv_model.specs.Migration.{no_if_unmade, says_no, on_want, hands_over, takes_over, on_grant, on_ack, is_ours, on_ours, move_refused, on_move}

module _ (set : Setting) (n : Node) (want : n.next_want ≤ last_number) (next : n.durable.next ≤ last_number) where
  either : (b : Bool) (x y : Decision) → (b ≡ true → IsWithin x) → (b ≡ false → IsWithin y) → IsWithin (cond b x y)
  either b x y f g = cond_both b x y (λ d. IsWithin d) f g

  -- neither number changes
  same : (d : Decision) → d.next_want ≡ n.next_want → d.durable.next ≡ n.durable.next → IsWithin d
  same d w x = record { want = omega (arith, w, want); next = omega (arith, x, next) }

  spare : (b : Bool) (cause other : Option Cause) → (n.durable.next == last_number) ≡ b → cond b (Some SerialsSpent) other ≡ None → n.durable.next + 1 ≤ last_number
  spare true cause other is none = absurd (let no : Some SerialsSpent ≡ None = none in cc)
  spare false cause other is none = let apart : n.durable.next ≡ last_number → ⊥ = eqb-false n.durable.next last_number is in omega (arith, next, apart)

  born : (birth : Birth) → no_birth set n.durable birth ≡ None → next_with birth n.durable.next ≤ last_number
  born Absent none = next
  born (Alive s) none = spare (n.durable.next == last_number) None _ refl none
  born BirthEnded none = spare (n.durable.next == last_number) None _ refl none

  module _ (m : EngineMeaning) (moment : Moment) where
    unless : (cause : Option Cause) (token : ℕ) (r : Request) (out : Outcome) (waiting : List Parked) → no_birth set n.durable out.birth ≡ cause → IsWithin (answered_unless cause m set n moment token r out waiting)
    unless None token r out waiting is = record { want = want; next = born out.birth is }
    unless (Some cause) token r out waiting is = same _ refl refl

    serves : (token : ℕ) (r : Request) (waiting : List Parked) → IsWithin (served m set n moment token r waiting)
    serves token r waiting = unless (no_birth set n.durable (answer_of m set n.durable moment r).birth) token r (answer_of m set n.durable moment r) waiting refl

    waiting : (token : ℕ) (r : Request) (k : Key) → IsWithin (waits set n moment token r k)
    waiting token r k = either (is_crowded set n.durable k) (refused n token TableFull n.parked) _ (λ _. same (refused n token TableFull n.parked) refl refl)
        (λ _. either (nat_le PARK_LIMIT (length n.parked)) (refused n token ParkFull n.parked) _ (λ _. same (refused n token ParkFull n.parked) refl refl)
        (λ _. either (n.next_want == last_number) (refused n token WantsSpent n.parked) (parks set n moment token r k) (λ _. same (refused n token WantsSpent n.parked) refl refl)
        (λ is. let apart : n.next_want ≡ last_number → ⊥ = eqb-false n.next_want last_number is in record { want = omega (arith, want, apart); next = next })))

    asks : (token : ℕ) (r : Request) (named : Option (Key × Secret)) → IsWithin (on_ask m set n moment token r named)
    asks token r None = serves token r n.parked
    asks token r (Some named) = either (is_settled (known n.durable named.0) || is_dead set n.durable named.0) _ _ (λ _. serves token r n.parked) (λ _. waiting token r named.0)

    first : (found : Option Parked) (others : List Parked) → IsWithin (serve_first m set n moment found others)
    first None others = same _ refl refl
    first (Some p) others = serves p.token p.request others

    parked : (test : Parked → Bool) → IsWithin (serve_parked m set n moment test)
    parked test = first (first_of test n.parked) (without test n.parked)

    unmade : (from : ℕ) (k : Key) (boot number : ℕ) → IsWithin (no_if_unmade set n from k boot number)
    unmade from k boot number = either (is_unmade set n.durable k) (says_no set n from k boot number) (idle n []) (λ _. same (says_no set n from k boot number) refl refl) (λ _. same (idle n []) refl refl)

    wanted : (from : ℕ) (k : Key) (boot number : ℕ) (st : Option KeyState) → IsWithin (on_want set n from k boot number st)
    wanted from k boot number None = unmade from k boot number
    wanted from k boot number (Some (Active e s)) = either (e == last_number) (idle n []) (hands_over set n k e s from []) (λ _. same (idle n []) refl refl) (λ _. same (hands_over set n k e s from []) refl refl)
    wanted from k boot number (Some (Sent e s to)) = either (to == from) _ _ (λ _. same (idle n _) refl refl) (λ _. unmade from k boot number)
    wanted from k boot number (Some (Gone e)) = unmade from k boot number
    wanted from k boot number (Some (Ended e)) = same _ refl refl

    granted : (from : ℕ) (k : Key) (e : ℕ) (s : Session) (st : Option KeyState) → IsWithin (on_grant set n from k e s st)
    granted from k e s st = either (is_unmade set n.durable k) _ _ (λ _. same (idle n []) refl refl)
        (λ _. either (nat_le e (epoch_in st)) _ _ (λ _. same (idle n _) refl refl)
        (λ _. either (lacks_room set n.durable k) (idle n []) (takes_over set n from k e s) (λ _. same (idle n []) refl refl) (λ _. same (takes_over set n from k e s) refl refl)))

    acked : (k : Key) (e : ℕ) (st : Option KeyState) → IsWithin (on_ack n k e st)
    acked k e None = same _ refl refl
    acked k e (Some (Active f s)) = same _ refl refl
    acked k e (Some (Sent f s to)) = either (f == e) _ _ (λ _. same (with_record n _ k (Gone e) None []) refl refl) (λ _. same (idle n []) refl refl)
    acked k e (Some (Gone f)) = same _ refl refl
    acked k e (Some (Ended f)) = same _ refl refl

    ours : (p : Packet) → IsWithin (on_ours m set n moment p)
    ours (Want from to k boot number) = wanted from k boot number (known n.durable k)
    ours (Grant from to k e s) = granted from k e s (known n.durable k)
    ours (Ack from to k e) = acked k e (known n.durable k)
    ours (No from to k boot number) = either (boot == n.durable.boot) _ _ (λ _. parked (is_wanted k number)) (λ _. same (idle n []) refl refl)

    ended : (now : ℕ) (f : Option Entry) → ((expire n now f []).next_want ≡ n.next_want) × ((expire n now f []).durable.next ≡ n.durable.next)
    ended now None = (refl, refl)
    ended now (Some (k, Active e s)) = (refl, refl)
    ended now (Some (k, Sent e s to)) = (refl, refl)
    ended now (Some (k, Gone e)) = (refl, refl)
    ended now (Some (k, Ended e)) = (refl, refl)

    moves : (k : Key) (to : ℕ) (st : Option KeyState) → IsWithin (on_move set n k to st)
    moves k to None = same _ refl refl
    moves k to (Some (Active e s)) = either ((to == set.node) || nat_le set.nodes to) _ _ (λ _. same (move_refused n _) refl refl)
        (λ _. either (e == last_number) (move_refused n _) (hands_over set n k e s to _) (λ _. same (move_refused n _) refl refl) (λ _. same (hands_over set n k e s to _) refl refl))
    moves k to (Some (Sent e s there)) = same _ refl refl
    moves k to (Some (Gone e)) = same _ refl refl
    moves k to (Some (Ended e)) = same _ refl refl

    pub within : (input : Input) → IsWithin (decided m set n moment input)
    within (Ask token r) = asks token r (m.names r)
    within (Incoming p) = either (is_ours set p) _ _ (λ _. ours p) (λ _. same (idle n []) refl refl)
    within Poke = parked (λ p. is_settled (known n.durable p.key))
    within Tick = let e = ended moment.now (first_over moment.now (entries n.durable.keys)) in same (on_tick set n moment.now moment.steady) e.0 e.1
    within (Move k to) = moves k to (known n.durable k)
