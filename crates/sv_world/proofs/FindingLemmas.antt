-- The fault that is found from the node that an event is about is the one that the definitions give it.
use Rattle.sv_world.proofs.Prelude.{◌≡◌, ℕ, inl, inr, Bool, true, Option, Some, None, List, arith, refl, sym, ap, ◌∙◌, lt-ltb, le-ltb, slice_get_cases}
use Rattle.sv_world.proofs.Prelude.{option_map, nat_lt, is_some, slice_get, Input, Move, Moment, Packet, addressee, Durable, token_of, asked_by, asked_of, Core}
use Rattle.sv_world.proofs.Prelude.{Line, Slot, step_fault, call_fault, start_fault, stop_fault, boot_if_up, durable_of, member_by, may_come, items, is_unused}
use Rattle.sv_world.proofs.Prelude.{is_there, setting_of, member_in, members_by, setting_in, settings_by, state_by, cluster_by, AreSet}
use Rattle.sv_model.specs.declared.input.Input.TheVariants.{Ask, Packet as Comes, Poke, Tick}
use Rattle.sv_world.specs.Finding.{boot_by, boot_in, started_by, start_fault_in, stop_by, number_in, token_by, step_by, delivery_by}

module _ {E : Type 0} where
  core_steps : (o : Option (Core E)) (d : Durable) (trace : List Line) (n : ℕ) (sent : Bool) (number : Option ℕ)
      → step_by trace n sent number (boot_by (boot_if_up (member_by o d))) ≡ step_fault true (member_by o d).up sent (is_unused (asked_of (items trace)) (token_by n (member_by o d).node.durable.boot number))
  core_steps None d trace n sent number = refl
  core_steps (Some c) d trace n sent number = refl

  slot_steps : (o : Option (Slot E)) (trace : List Line) (n : ℕ) (sent : Bool) (number : Option ℕ)
      → step_by trace n sent number (boot_in o) ≡ step_fault (is_some o) (member_in o).up sent (is_unused (asked_of (items trace)) (token_by n (member_in o).node.durable.boot number))
  slot_steps None trace n sent number = refl
  slot_steps (Some s) trace n sent number = core_steps s.core (durable_of s) trace n sent number

  core_stops : (o : Option (Core E)) (d : Durable) → stop_by (boot_by (boot_if_up (member_by o d))) ≡ stop_fault true (member_by o d).up
  core_stops None d = refl
  core_stops (Some c) d = refl

  slot_stops : (o : Option (Slot E)) → stop_by (boot_in o) ≡ stop_fault (is_some o) (member_in o).up
  slot_stops None = refl
  slot_stops (Some s) = core_stops s.core (durable_of s)

module _ {E : Type 0} (slots : List (Slot E)) (set : AreSet slots) where
  -- a node is there where it was told of itself
  there : (n : ℕ) → is_some (slice_get slots n) ≡ nat_lt n (settings_by slots n).nodes
  there n = elim (slice_get_cases slots n).1 [ inl found ↦ ap is_some found.2 ∙ sym (lt-ltb n (settings_by slots n).nodes (set n found.1).told) | inr past ↦ ap is_some past.1 ∙ sym (ap (λ (o : Option (Slot E)). nat_lt n (setting_in o).nodes) past.1 ∙ le-ltb n 0 (omega arith)) ]

module _ {E : Type 0} (slots : List (Slot E)) (packets : List Packet) (trace : List Line) (set : AreSet slots) where
  asked : (n : ℕ) (d : Durable) (input : Input) → token_by n d.boot (number_in input) ≡ asked_by (token_of (setting_of (cluster_by slots) n d.boot) d) input
  asked n d (Ask token r) = refl
  asked n d (Comes p) = refl
  asked n d Poke = refl
  asked n d Tick = refl
  asked n d (Move k to) = refl

  pub steps : (n : ℕ) (moment : Moment) (input : Input)
      → step_by trace n (may_come packets input) (number_in input) (boot_in (slice_get slots n)) ≡ call_fault (cluster_by slots) (state_by slots packets trace) (Some (record { node = n; moment = moment; input = input }))
  steps n moment input =
      let p = members_by slots n in
      slot_steps (slice_get slots n) trace n (may_come packets input) (number_in input)
      ∙ ap (λ b. step_fault b p.up (may_come packets input) (is_unused (asked_of (items trace)) (token_by n p.node.durable.boot (number_in input)))) (there slots set n)
      ∙ ap (λ t. step_fault (nat_lt n (settings_by slots n).nodes) p.up (may_come packets input) (is_unused (asked_of (items trace)) t)) (asked n p.node.durable input)

  pub delivers : (o : Option Packet) (moment : Moment)
      → delivery_by slots packets trace o ≡ call_fault (cluster_by slots) (state_by slots packets trace) (option_map (λ p. record { node = addressee p; moment = moment; input = Comes p }) o)
  delivers None moment = refl
  delivers (Some p) moment = steps (addressee p) moment (Comes p)

  pub stops : (n : ℕ) → stop_by (boot_in (slice_get slots n)) ≡ stop_fault (is_there (cluster_by slots) n (members_by slots n).node.durable.boot) (members_by slots n).up
  stops n = slot_stops (slice_get slots n) ∙ ap (λ b. stop_fault b (members_by slots n).up) (there slots set n)

  core_starts : (o : Option (Core E)) (d : Durable) → started_by (boot_if_up (member_by o d)) ≡ start_fault true (member_by o d).up
  core_starts None d = refl
  core_starts (Some c) d = refl

  slot_starts : (o : Option (Slot E)) → start_fault_in o ≡ start_fault (is_some o) (member_in o).up
  slot_starts None = refl
  slot_starts (Some s) = core_starts s.core (durable_of s)

  pub starts : (n boot : ℕ) → start_fault_in (slice_get slots n) ≡ start_fault (is_there (cluster_by slots) n boot) (members_by slots n).up
  starts n boot = slot_starts (slice_get slots n) ∙ ap (λ b. start_fault b (members_by slots n).up) (there slots set n)
