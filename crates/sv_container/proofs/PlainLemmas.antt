-- What is served where sessions remember nothing.
use Rattle.sv_container.proofs.Prelude.{◌≡◌, ◌∙◌, refl, ap, sym, ℕ, false, List, None, Option, Some, is_some, Key, Secret, Outcome, Request, Response, Session}
use Rattle.sv_container.proofs.Prelude.{Edit, begun, Edited, expired_of, held_of, App, recalled, Answered, answered, answered_by, bared, edited_of, memory_if}
use Rattle.sv_container.proofs.Prelude.{or_full, outcome_by, plain_parts, remembering, remembering_with, served_in, served_new, served_unless, unserved, Choice}
use Rattle.sv_container.proofs.Prelude.{Admission}
use Rattle.std.proofs.Common.{option_map}
use Rattle.sv_container.specs.Admission.{is_away, joined_of, secret_of}

none_of : (c : Option Choice) → is_some c ≡ false → c ≡ None
none_of None none = refl
none_of (Some c) none = absurd cc

module _ (a : App) (r : Request) (path : List ℕ) (j : Admission) (now : ℕ) (fresh : Key × Secret) where
  abbrev chosen : Option Response → Option Outcome → Outcome
  chosen None served = or_full a r j served
  chosen (Some response) served = unserved a j response

  abbrev answer_for : Option Choice → Answered
  answer_for c = answered_by a r path (begun (bared (is_some c) (held_of j)) a.number a.interval now fresh)

  abbrev kept_for : Option Choice → Answered → Option Edited
  kept_for c w = remembering_with c a.number r (is_away j) (secret_of j) (memory_if (is_some c) (held_of j)) fresh.0 w.response (edited_of w.edit)

  abbrev by_choice : Option Choice → Outcome
  by_choice c = chosen (recalled c r (held_of j)) (option_map (outcome_by a j fresh (answer_for c).response) (kept_for c (answer_for c)))

  new_is : option_map (outcome_by a j fresh (answer_for a.once).response) (kept_for a.once (answer_for a.once)) ≡ served_new a r path j now fresh
  unfolding served_new remembering
  new_is = refl

  unless_is : (found : Option Response) → chosen found (served_new a r path j now fresh) ≡ served_unless a r path j now fresh found
  unless_is None = refl
  unless_is (Some response) = refl

  by_its_choice : by_choice a.once ≡ served_in a r path j now fresh
  unfolding served_in
  by_its_choice = ap (chosen (recalled a.once r (held_of j))) new_is ∙ unless_is (recalled a.once r (held_of j))

  without : by_choice None ≡ outcome_by a j fresh (answer_for None).response (edited_of (answer_for None).edit)
  unfolding recalled
  without = refl

  pub served_plain : (b : App) (joined expired : Option Key) (held : Option (Key × Session)) (begin behind : Edit) (response : Response) (edited : Edited) (o : Outcome)
      → b ≡ a → is_some a.once ≡ false → joined ≡ joined_of j → expired ≡ expired_of j → held ≡ held_of j → begin ≡ begun held a.number a.interval now fresh
      → answered response behind ≡ answered_by a r path begin → edited ≡ edited_of behind → o ≡ plain_parts b joined expired fresh response edited
      → o ≡ served_in a r path j now fresh
  served_plain b joined expired held begin behind response edited o same plain joined_is expired_is held_is begin_is answers edited_is is =
      let w_is : answered response behind ≡ answer_for None =
      answers ∙ ap (answered_by a r path) (begin_is ∙ ap (λ (x : Option (Key × Session)). begun x a.number a.interval now fresh) held_is) in
      let response_is : response ≡ (answer_for None).response = ap (λ (x : Answered). x.response) w_is in
      let edited_w : edited ≡ edited_of (answer_for None).edit = edited_is ∙ ap (λ (x : Answered). edited_of x.edit) w_is in
      is
      ∙ ap (λ (x : App). plain_parts x joined expired fresh response edited) same
      ∙ ap (λ (x : Option Key). plain_parts a x expired fresh response edited) joined_is
      ∙ ap (λ (x : Option Key). plain_parts a (joined_of j) x fresh response edited) expired_is
      ∙ ap (λ (x : Response). plain_parts a (joined_of j) (expired_of j) fresh x edited) response_is
      ∙ ap (λ (x : Edited). plain_parts a (joined_of j) (expired_of j) fresh (answer_for None).response x) edited_w
      ∙ sym without
      ∙ sym (ap by_choice (none_of a.once plain))
      ∙ by_its_choice
