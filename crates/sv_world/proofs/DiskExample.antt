-- A list of calls that does something: a node is opened, answers a request, and meets a failed disk when it is to hand the
-- session over, whose record stands.
--
-- Its engine answers with the request's own body, so what was put out tells which request it was: the calls can be met, what
-- they show is that request's answer, and a list of events that asks for another request isn't theirs.
use Rattle.sv_world.proofs.Prelude.{◌≡◌, ◌≢◌, ◌<◌, ℕ, Bool, false, None, List, [], ◌∷◌, inr, arith, refl, sym, subst, ne_eqb, zero, suc, len-empty, Input}
use Rattle.sv_world.proofs.Prelude.{Moment, Alive, Untouched, Request, Response, Session, KeyState, always, EngineMeaning, key_cmp, decided, Node, last_number}
use Rattle.sv_world.proofs.Prelude.{blank, Open, Step, Unsaid, Refused, Given, After, quiet, kept, carried_out, node_behind, restarted, Rise, WorldEvent, Ask}
use Rattle.sv_world.proofs.Prelude.{Crash, Restart, Silent, Torn, NodeCall, AreCalls, AreOfAll, nothing_called, turns_at, AreOfProcesses, AreTurnsBy}
use Rattle.sv_world.proofs.Prelude.{setting_of}
use Rattle.sv_model.specs.declared.input.Input.TheVariants as input
use Rattle.sv_model.specs.declared.output.Output.TheVariants.{Answer}
use Rattle.sv_model.specs.declared.site.StepFault.TheVariants.{Device}
use Rattle.sv_node.specs.Call.{Done}
use Rattle.sv_node.specs.History.{halted}
use Rattle.sv_world.specs.Disks.{behind_all}
use Rattle.sv_world.proofs.Example.{two}

-- the answer to a request has its body
abbrev echo : Request → Response
echo r = record { status = 200; fields = []; body = r.body; head_only = false; close = false }

-- it makes a session for each request, and answers with the echo
abbrev echoes : Session → EngineMeaning
echoes s = record {
  names = λ r. None;
  serve = λ r held now fresh. record { response = echo r; fate = Untouched; birth = Alive s; events = [] };
  hear = λ heard t. heard;
}

module _ (s : Session) (r : Request) (moment : Moment) where
  abbrev m : EngineMeaning
  m = echoes s

  -- what the node keeps after each call
  abbrev opened : Node
  opened = kept (restarted (setting_of two 0 1) blank)

  abbrev answered : After
  answered = carried_out (decided m (setting_of two 0 1) opened moment (input.Ask 7 r))

  abbrev moves : Input
  moves = input.Move (record { home = 0; serial = 1 }) 1

  abbrev handed_over : Node
  handed_over = kept (decided m (setting_of two 0 1) answered.node moment moves).durable

  low : (n : ℕ) → n < 9 → n ≢ last_number
  low n less e = absurd (omega (arith, less, e))

  abbrev list : List NodeCall
  list =
      record { node = 0; call = Open Done; after = quiet opened }
      ∷ record { node = 0; call = Step moment (input.Ask 7 r) Done; after = answered }
      ∷ record { node = 0; call = Step moment moves (Refused Device); after = quiet handed_over }
      ∷ []

  calls : AreCalls (always m) two nothing_called (λ _. []) list
  calls = (
    record { inside = omega arith; comes = tt; does = (refl, low 0 (omega arith), refl) },
    (
      record { inside = omega arith; comes = (tt, λ i. absurd i); does = (refl, refl) },
      (record { inside = omega arith; comes = (tt, tt); does = (refl, inr refl) }, tt),
    ),
  )

  -- no other node is called
  elsewhere : (n : ℕ) → turns_at (suc n) list ≡ []
  elsewhere n = rw (ne_eqb (suc n) 0 (λ e. omega (arith, e))) refl

  -- the same, by what is known of each node by itself
  own : (n : ℕ) → AreTurnsBy (λ boot. m) (setting_of two n) (halted blank) (turns_at n list)
  own zero = ((refl, low 0 (omega arith), refl), ((refl, refl), ((refl, inr refl), tt)))
  own (suc n) = subst (AreTurnsBy (λ boot. m) (setting_of two (suc n)) (halted blank)) (sym (elsewhere n)) tt

  numbers : (n : ℕ) → (high : ℕ) × Rise 0 high (turns_at n list)
  numbers zero = (7, (tt, (omega arith, (tt, omega arith))))
  numbers (suc n) = (0, subst (Rise 0 0) (sym (elsewhere n)) (omega arith))

  of_processes : AreOfProcesses (always m) two list
  of_processes = record { inside = ((λ boot. omega arith), ((λ boot. omega arith), ((λ boot. omega arith), tt))); turns = own; rise = numbers; sent = (tt, (tt, (tt, tt))) }

  -- the only whole step has put out the answer to that request, and nothing else
  shown : (behind_all nothing_called list).shown ≡ record { node = 0; boot = 1; outputs = Answer 7 (echo r) ∷ []; told = answered.told } ∷ []
  shown = rw (len-empty key_cmp KeyState) refl

  -- whatever list of events is these calls' own asks for that request, under that number
  own_events : (events : List WorldEvent) → AreOfAll nothing_called list events
      → (stands : Bool) × (events ≡ Restart 0 ∷ Ask 0 moment 7 r ∷ Torn 0 moment moves stands ∷ [])
  own_events events (first, rest, e, is_first, (second, rest_2, e_2, is_second, (third, rest_3, e_3, (stands, is_third), e_4))) =
      (stands, rw (e, is_first, e_2, is_second, e_3, is_third, e_4) refl)

  -- so no list that asks for another request is
  not_of_another : (other : Request) → other ≢ r → (stands : Bool)
      → ¬ AreOfAll nothing_called list (Restart 0 ∷ Ask 0 moment 7 other ∷ Torn 0 moment moves stands ∷ [])
  not_of_another other differs stands are = differs (let same = (own_events _ are).1 in cc)

  -- ---- both steps become durable at once, and a stop falls before anything of them has left

  abbrev both : List Given
  both = record { at = moment; input = input.Ask 7 r } ∷ record { at = moment; input = moves } ∷ []

  abbrev torn_away : List NodeCall
  torn_away =
      record { node = 0; call = Open Done; after = quiet opened }
      ∷ record { node = 0; call = Unsaid both; after = quiet (kept (node_behind m (setting_of two 0 1) opened both).durable) }
      ∷ []

  torn_calls : AreCalls (always m) two nothing_called (λ _. []) torn_away
  torn_calls = (
    record { inside = omega arith; comes = tt; does = (refl, low 0 (omega arith), refl) },
    (record { inside = omega arith; comes = ((tt, λ i. absurd i), ((tt, tt), tt)); does = (refl, refl) }, tt),
  )

  -- the node keeps what it keeps after the same steps one by one
  same_kept : (kept (node_behind m (setting_of two 0 1) opened both).durable) ≡ handed_over
  same_kept = refl

  -- and their events are these
  torn_events : (events : List WorldEvent) → AreOfAll nothing_called torn_away events → events ≡ Restart 0 ∷ Silent 0 moment (input.Ask 7 r) ∷ Silent 0 moment moves ∷ Crash 0 ∷ []
  torn_events events (first, rest, e, is_first, (second, rest_2, e_2, is_second, e_3)) = rw (e, is_first, e_2, is_second, e_3) refl
