-- A stop inside a call, a failed disk and a refused opening leave a state that such a call leaves.
use Rattle.std.proofs.Common.{◌≡◌, ◌⊎◌, ⊎_elim, ℕ, true, false, List, inl, inr, refl, sym, ap, ◌∙◌, subst}
use Rattle.sv_node.proofs.Prelude.{Only, LeavesOnly, Input, Moment, Setting, EngineMeaning, decided, Durable, Node, last_number, Open, Step, Refused, Cut, Does}
use Rattle.sv_node.proofs.Prelude.{StopsStart, quiet, kept, GivesStart, StartsWithoutLoss, Restores, RestoresEither, OpenFault}
use Rattle.sv_model.specs.declared.site.StepFault.TheVariants as step
use Rattle.sv_node.specs.Cuts.{GivesCall, GivesCallOn, LeaveThis, LeaveEither, LeftTogether, IsRefusedOpening}
use Rattle.sv_node.specs.declared.fault.OpenFault.TheVariants.{Device, Damaged, Full, Memory}
use Rattle.sv_node.proofs.BootLemmas.{found}

-- ---- a step

module _ (m : EngineMeaning) (set : Setting) (n : Node) (at : Moment) (input : Input) where
  -- a stop inside it
  pub step_cut : (image other : List ℕ) → RestoresEither set other n.durable (decided m set n at input).durable image → GivesCallOn m set true n (Step at input Cut) image other
  step_cut image other (inl r) = record { durable = n.durable; gives = r; does = (refl, inl refl) }
  step_cut image other (inr r) = record { durable = (decided m set n at input).durable; gives = r; does = (refl, inr refl) }

  -- a disk that has failed
  pub step_failed : (a b : List ℕ) → Restores set a b n.durable ⊎ Restores set a b (decided m set n at input).durable → GivesCall m set true n (Step at input (Refused step.Device)) a b
  step_failed a b (inl r) = record { durable = n.durable; gives = r; does = (refl, inl refl) }
  step_failed a b (inr r) = record { durable = (decided m set n at input).durable; gives = r; does = (refl, inr refl) }

-- ---- an opening that was refused

module _ {D : Type 0} (may_leave : D → List ℕ → Type 0) (m : EngineMeaning) (set : Setting) (d : Durable) (a b new_a new_b : D) (all : LeaveThis may_leave set d a b) where
  abbrev Opened : OpenFault → List ℕ → List ℕ → Type 0
  Opened fault x y = GivesCall m set false (kept d) (Open (Refused fault)) x y

  same : (x y : List ℕ) → (may_leave a x × may_leave b y) ⊎ Restores set x y d → Restores set x y d
  same x y (inl old) = all x y old.0 old.1
  same x y (inr gives) = gives

  started : (x y : List ℕ) → (may_leave a x × may_leave b y) ⊎ GivesStart set d x y → (e : Durable) × Restores set x y e × StopsStart set d (quiet (kept e))
  started x y (inl old) = (d, all x y old.0 old.1, inl refl)
  started x y (inr gives) = found set d x y gives

  pub opening_refused : (fault : OpenFault) → IsRefusedOpening may_leave fault set d a b new_a new_b → (x y : List ℕ) → may_leave new_a x → may_leave new_b y → Opened fault x y
  opening_refused Device r x y left_a left_b = let s = started x y (r.left x y left_a left_b) in record { durable = s.0; gives = s.1; does = (refl, s.2) }
  opening_refused Damaged r x y left_a left_b = record { durable = d; gives = same x y (r.unstarted (λ is. cc) x y left_a left_b); does = (refl, r.damaged refl, refl) }
  opening_refused Full r x y left_a left_b = record { durable = d; gives = same x y (r.unstarted (λ is. cc) x y left_a left_b); does = (refl, refl) }
  opening_refused Memory r x y left_a left_b = record { durable = d; gives = same x y (r.unstarted (λ is. cc) x y left_a left_b); does = (refl, refl) }

  -- a stop inside an opening
  module _ (seen : D → List ℕ) (moment : D → ℕ) (left_since : D → ℕ → List ℕ → Type 0) where
    cut_at : (x y : List ℕ) → (may_leave a x × may_leave b y) ⊎ GivesStart set d x y → GivesCall m set false (kept d) (Open Cut) x y
    cut_at x y left = let s = started x y left in record { durable = s.0; gives = s.1; does = (refl, s.2) }

    pub opening_cut : StartsWithoutLoss seen may_leave moment left_since set d a b new_a new_b → (x y : List ℕ) → LeftTogether may_leave moment left_since a b new_a new_b x y → GivesCall m set false (kept d) (Open Cut) x y
    opening_cut (inl w) x y t =
        let old_y : may_leave b y = w.of_kept.each y t.of_b in
        cut_at x y (⊎_elim (λ (only : Only (seen new_b) (may_leave new_b)).
        ⊎_elim (λ old_x. inl (old_x, old_y)) (λ gives. ⊎_elim (λ old_x. inl (old_x, old_y)) (λ left_y. inr (subst (λ (l : List ℕ). GivesStart set d x l) (sym (only y left_y)) gives)) t.a_before) (w.of_written.each x t.of_a))
        (λ (still : LeavesOnly moment left_since a new_a (may_leave a)). inl (still.each x t.of_a, old_y)) w.apart)
    opening_cut (inr w) x y t =
        let old_x : may_leave a x = w.of_kept.each x t.of_a in
        cut_at x y (⊎_elim (λ (only : Only (seen new_a) (may_leave new_a)).
        ⊎_elim (λ old_y. inl (old_x, old_y)) (λ gives. ⊎_elim (λ old_y. inl (old_x, old_y)) (λ left_x. inr (subst (λ (l : List ℕ). GivesStart set d l y) (sym (only x left_x)) gives)) t.b_before) (w.of_written.each y t.of_b))
        (λ (still : LeavesOnly moment left_since b new_b (may_leave b)). inl (old_x, still.each y t.of_b)) w.apart)

-- ---- an opening of disks that give one of two states, as those after a failed disk do

module _ {D : Type 0} (may_leave : D → List ℕ → Type 0) (m : EngineMeaning) (set : Setting) (before after d : Durable) (a b new_a new_b : D) (all : LeaveEither may_leave set before after a b) (now : (d ≡ before) ⊎ (d ≡ after)) where
  abbrev Either : OpenFault → List ℕ → List ℕ → Type 0
  Either fault x y = GivesCall m set false (kept before) (Open (Refused fault)) x y ⊎ GivesCall m set false (kept after) (Open (Refused fault)) x y

  given : (x y : List ℕ) → (may_leave a x × may_leave b y) ⊎ Restores set x y d → Restores set x y before ⊎ Restores set x y after
  given x y (inl old) = all x y old.0 old.1
  given x y (inr gives) = ⊎_elim (λ is. inl (subst (λ (e : Durable). Restores set x y e) is gives)) (λ is. inr (subst (λ (e : Durable). Restores set x y e) is gives)) now

  -- what an opening does that changes nothing
  unchanged : (fault : OpenFault) → ((e : Durable) → (e ≡ before) ⊎ (e ≡ after) → Does m set false (kept e) (Open (Refused fault)) (quiet (kept e))) → (x y : List ℕ) → Restores set x y before ⊎ Restores set x y after → Either fault x y
  unchanged fault does x y (inl r) = inl (record { durable = before; gives = r; does = does before (inl refl) })
  unchanged fault does x y (inr r) = inr (record { durable = after; gives = r; does = does after (inr refl) })

  failed_start : (x y : List ℕ) → (may_leave a x × may_leave b y) ⊎ GivesStart set d x y → Either Device x y
  failed_start x y (inl old) = unchanged Device (λ e is. (refl, inl refl)) x y (all x y old.0 old.1)
  failed_start x y (inr gives) =
      let s = found set d x y gives in
      ⊎_elim (λ is. inl (record { durable = s.0; gives = s.1; does = (refl, subst (λ (e : Durable). StopsStart set e (quiet (kept s.0))) is s.2) }))
      (λ is. inr (record { durable = s.0; gives = s.1; does = (refl, subst (λ (e : Durable). StopsStart set e (quiet (kept s.0))) is s.2) })) now

  -- the last number is that of both
  spent : before.boot ≡ after.boot → d.boot ≡ last_number → (e : Durable) → (e ≡ before) ⊎ (e ≡ after) → e.boot ≡ last_number
  spent same last e is =
      let d_is : d.boot ≡ before.boot = ⊎_elim (λ (i : d ≡ before). ap (λ (x : Durable). x.boot) i) (λ (i : d ≡ after). ap (λ (x : Durable). x.boot) i ∙ sym same) now in
      ⊎_elim (λ (i : e ≡ before). ap (λ (x : Durable). x.boot) i) (λ (i : e ≡ after). ap (λ (x : Durable). x.boot) i ∙ sym same) is ∙ sym d_is ∙ last

  pub opening_again : (fault : OpenFault) → (fault ≡ Damaged → before.boot ≡ after.boot) → IsRefusedOpening may_leave fault set d a b new_a new_b → (x y : List ℕ) → may_leave new_a x → may_leave new_b y → Either fault x y
  opening_again Device same r x y left_a left_b = failed_start x y (r.left x y left_a left_b)
  opening_again Damaged same r x y left_a left_b =
      unchanged Damaged (λ e is. (refl, spent (same refl) (r.damaged refl) e is, refl)) x y (given x y (r.unstarted (λ is. cc) x y left_a left_b))
  opening_again Full same r x y left_a left_b = unchanged Full (λ e is. (refl, refl)) x y (given x y (r.unstarted (λ is. cc) x y left_a left_b))
  opening_again Memory same r x y left_a left_b = unchanged Memory (λ e is. (refl, refl)) x y (given x y (r.unstarted (λ is. cc) x y left_a left_b))
