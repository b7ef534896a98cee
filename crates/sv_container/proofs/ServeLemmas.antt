-- What is served, by its parts.
use Rattle.sv_container.proofs.Prelude.{◌≡◌, ◌∙◌, refl, ap, sym, ℕ, Bool, List, None, Option, is_some, Key, Secret, Told, Birth, Fate, Outcome, Request}
use Rattle.sv_container.proofs.Prelude.{Response, Session, Edit, begun, Edited, expired_of, held_of, App, recalled, Answered, answered, answered_by, bared}
use Rattle.sv_container.proofs.Prelude.{edited_of, memory_if, or_full, plain_parts, remembering, remembering_with, served_apart, served_in, served_new}
use Rattle.sv_container.proofs.Prelude.{Admission}
use Rattle.std.proofs.Common.{option_map}
use Rattle.sv_container.specs.Admission.{arrival_of}
use Rattle.sv_container.specs.Serving.{served_parts}
use Rattle.sv_container.specs.declared.admission.Arrival.{Arrival}

module _ (a b : App) (r : Request) (path : List ℕ) (arrival : Arrival) (bare : Admission) (memory : List ℕ) (joined : Admission) (now : ℕ) (fresh : Key × Secret) where
  abbrev w : Answered
  w = answered_by a r path (begun (held_of bare) a.number a.interval now fresh)

  -- what comes of a request that was served, by the parts of its way
  pub served_apart_by : (expired : Option Key) (held : Option (Key × Session)) (begin behind : Edit) (response : Response) (edited : Edited) (kept : Option Edited) (o : Outcome)
      → b ≡ a → expired ≡ expired_of bare → held ≡ held_of bare → begin ≡ begun held a.number a.interval now fresh → answered response behind ≡ answered_by a r path begin
      → edited ≡ edited_of behind → remembering_with b.once b.number r arrival.is_away arrival.secret memory fresh.0 response edited ≡ kept
      → o ≡ or_full b r joined (option_map (plain_parts b arrival.joined expired fresh response) kept) → o ≡ served_apart a r path arrival bare memory joined now fresh
  served_apart_by expired held begin behind response edited kept o same expired_is held_is begin_is answers edited_is kept_is is =
      let w_is : answered response behind ≡ w =
      answers ∙ ap (answered_by a r path) (begin_is ∙ ap (λ (x : Option (Key × Session)). begun x a.number a.interval now fresh) held_is) in
      let response_is : response ≡ w.response = ap (λ (x : Answered). x.response) w_is in
      let edited_w : edited ≡ edited_of w.edit = edited_is ∙ ap (λ (x : Answered). edited_of x.edit) w_is in
      is
      ∙ ap (λ (x : Option Edited). or_full b r joined (option_map (plain_parts b arrival.joined expired fresh response) x)) (sym kept_is)
      ∙ ap (λ (x : App). or_full x r joined (served_parts x r arrival expired memory fresh response edited)) same
      ∙ ap (λ (x : Option Key). or_full a r joined (served_parts a r arrival x memory fresh response edited)) expired_is
      ∙ ap (λ (x : Response). or_full a r joined (served_parts a r arrival (expired_of bare) memory fresh x edited)) response_is
      ∙ ap (λ (x : Edited). or_full a r joined (served_parts a r arrival (expired_of bare) memory fresh w.response x)) edited_w

module _ (a : App) (r : Request) (path : List ℕ) (joined : Admission) (now : ℕ) (fresh : Key × Secret) where
  -- of which nothing is recalled
  pub served_apart_is : (bare : Admission) (memory : List ℕ) (arrival : Arrival) → arrival ≡ arrival_of joined → recalled a.once r (held_of joined) ≡ None
      → memory ≡ memory_if (is_some a.once) (held_of joined) → held_of bare ≡ bared (is_some a.once) (held_of joined) → expired_of bare ≡ expired_of joined
      → served_apart a r path arrival bare memory joined now fresh ≡ served_in a r path joined now fresh
  unfolding served_in served_new remembering
  served_apart_is bare memory arrival arrival_is none memory_is held_is expired_is = rw (none, arrival_is, memory_is, held_is, expired_is) refl

pub edited_is_of : (e : Edited) (b : Edit) → e.fate ≡ b.fate → e.birth ≡ b.birth → e.id_changed ≡ b.id_changed → e.events ≡ b.events → e ≡ edited_of b
edited_is_of e b fate birth id_changed events =
    ap (λ (x : Fate). let y : Edited = record { fate = x; birth = e.birth; id_changed = e.id_changed; events = e.events } in y) fate
    ∙ ap (λ (x : Birth). let y : Edited = record { fate = b.fate; birth = x; id_changed = e.id_changed; events = e.events } in y) birth
    ∙ ap (λ (x : Bool). let y : Edited = record { fate = b.fate; birth = b.birth; id_changed = x; events = e.events } in y) id_changed
    ∙ ap (λ (x : List Told). let y : Edited = record { fate = b.fate; birth = b.birth; id_changed = b.id_changed; events = x } in y) events
