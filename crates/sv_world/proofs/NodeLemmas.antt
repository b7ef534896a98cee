-- One of the nodes has changed.
use Rattle.sv_world.proofs.Prelude.{◌≡◌, ◌≢◌, ℕ, ◌<◌, Bool, true, false, cond, Option, Some, List, [], ◌∷◌, arith, refl, sym, ap, ◌∙◌, ⊎_elim, slice_get}
use Rattle.sv_world.proofs.Prelude.{Result, Ok, Err, IfOk, OnErr, option_map, cases_eq, ne_eqb, eqb-true, EngineMeaning, heard_all, Effect, Slot, Task, deed}
use Rattle.sv_world.proofs.Prelude.{told_by, Done, Setting, AreInstalled, HasDone, engine_in, member_in, setting_in, noted_in, meant_in, members_by}
use Rattle.sv_world.proofs.Prelude.{settings_by, meanings_by, HaveDone, AreUndone}
use Rattle.std.proofs.Common.{zero, suc, length}
use Rattle.std.specs.Prelude.{◌==◌, slice_set}
use Rattle.std.proofs.lemmas.Bool.{eq-eqb}
use Rattle.sv_world.specs.Slot.{IsUndone, heard_in}
use Rattle.sv_world.specs.Worlds.{heard_by}

eqb_suc : (a b : ℕ) → (suc a == suc b) ≡ (a == b)
eqb_suc a b = ⊎_elim
    (λ (e : a ≡ b). eq-eqb (suc a) (suc b) (ap suc e) ∙ sym (eq-eqb a b e))
    (λ (ne : a ≢ b). ne_eqb (suc a) (suc b) (λ e. ne (omega (arith, e))) ∙ sym (ne_eqb a b ne))
    (cases_eq a b)

module _ {X : Type 0} where
  get_set : (xs : List X) (n : ℕ) (x : X) (i : ℕ) → n < length xs → slice_get (slice_set xs n x) i ≡ cond (i == n) (Some x) (slice_get xs i)
  get_set [] n x i less = absurd (omega arith)
  get_set (y ∷ ys) zero x zero less = refl
  get_set (y ∷ ys) zero x (suc i) less = ap (λ b. cond b (Some x) (slice_get ys i)) (sym (ne_eqb (suc i) zero (λ e. omega (arith, e))))
  get_set (y ∷ ys) (suc n) x zero less = ap (λ b. cond b (Some x) (Some y)) (sym (ne_eqb zero (suc n) (λ e. omega (arith, e))))
  get_set (y ∷ ys) (suc n) x (suc i) less = get_set ys n x i (omega arith) ∙ ap (λ b. cond b (Some x) (slice_get ys i)) (sym (eqb_suc i n))

  module _ {A : Type 0} (f : Option X → A) where
    by_cond : (b : Bool) (x : X) (o : Option X) → f (cond b (Some x) o) ≡ cond b (f (Some x)) (f o)
    by_cond true x o = refl
    by_cond false x o = refl

    pub changed : (xs : List X) (n : ℕ) (x : X) → n < length xs → (i : ℕ) → f (slice_get (slice_set xs n x) i) ≡ cond (i == n) (f (Some x)) (f (slice_get xs i))
    changed xs n x less i = ap f (get_set xs n x i less) ∙ by_cond (i == n) x (slice_get xs i)

    still_by : (xs : List X) (i n : ℕ) (b : Bool) (a : A) → (i == n) ≡ b → a ≡ f (slice_get xs n) → cond b a (f (slice_get xs i)) ≡ f (slice_get xs i)
    still_by xs i n true a is same = same ∙ ap (λ k. f (slice_get xs k)) (sym (eqb-true i n is))
    still_by xs i n false a is same = refl

    abbrev seen : List X → ℕ → A
    seen xs i = f (slice_get xs i)

    pub same : (xs : List X) (n : ℕ) (old new : X) → n < length xs → slice_get xs n ≡ Some old → f (Some new) ≡ f (Some old) → seen (slice_set xs n new) ≡ seen xs
    same xs n old new less there is = λ j i. (changed xs n new less i ∙ still_by xs i n (i == n) (f (Some new)) refl (is ∙ sym (ap f there))) j

-- a value at a number, by what is there
at_number : {A : Type 0} (at : ℕ → A) (g : A → A) (i n : ℕ) (b : Bool) (a : A) → (i == n) ≡ b → a ≡ g (at n) → cond b a (at i) ≡ cond b (g (at i)) (at i)
at_number at g i n true a is h = h ∙ ap (λ k. g (at k)) (sym (eqb-true i n is))
at_number at g i n false a is h = refl

module _ {E : Type 0} (slots : List (Slot E)) (n : ℕ) (old new : Slot E) (less : n < length slots) (there : slice_get slots n ≡ Some old) where
  pub settings_same : new.setting ≡ old.setting → settings_by (slice_set slots n new) ≡ settings_by slots
  settings_same is = same setting_in slots n old new less there is

  pub meanings_same : (meaning : E → EngineMeaning) → meant_in meaning (Some new) ≡ meant_in meaning (Some old) → meanings_by meaning (slice_set slots n new) ≡ meanings_by meaning slots
  meanings_same meaning is = same (meant_in meaning) slots n old new less there is

  pub undone : (noted : E → List (List ℕ)) → IsUndone noted old new → AreUndone noted slots (slice_set slots n new)
  undone noted h = record { members = same member_in slots n old new less there h.member; heard = same (noted_in noted) slots n old new less there h.heard }

  pub done : (noted : E → List (List ℕ)) (m : EngineMeaning) (task : Task) (f : Effect) → HasDone noted m old new task f → HaveDone noted m slots (slice_set slots n new) (record { node = n; task = task }) f
  done noted m task f h =
      let deeds : deed m old.setting (member_in (Some old)) task ≡ deed m (settings_by slots n) (members_by slots n) task = λ i. deed m (setting_in (sym there i)) (member_in (sym there i)) task in
      let listen = option_map (λ (x : List (List ℕ)). heard_all m x (told_by f)) in
      record {
        members = λ j x. (changed member_in slots n new less x ∙ ap (λ p. cond (x == n) p (members_by slots x)) (h.member ∙ ap (λ (d : Done). d.member) deeds)) j;
        effect = h.effect ∙ ap (λ (d : Done). d.effect) deeds;
        heard = λ x. changed (noted_in noted) slots n new less x ∙ at_number (heard_by noted slots) listen x n (x == n) (heard_in noted new) refl (h.heard ∙ ap (λ o. listen (noted_in noted o)) (sym there));
      }

module _ {E : Type 0} (meaning : E → EngineMeaning) (noted : E → List (List ℕ)) (slots : List (Slot E)) (n : ℕ) (old new : Slot E) (less : n < length slots) (there : slice_get slots n ≡ Some old) where
  -- it has another engine and another setting
  pub installed : (set : Setting) (engine : E) → set.node ≡ n → new.setting ≡ set → engine_in new ≡ Some engine → AreInstalled meaning noted set engine slots (slice_set slots n new)
  installed set engine own is has = record {
    settings = λ x. changed setting_in slots n new less x ∙ (λ i. cond (x == sym own i) (is i) (settings_by slots x));
    meanings = λ x. changed (meant_in meaning) slots n new less x ∙ (λ i. cond (x == sym own i) (option_map meaning (has i)) (meanings_by meaning slots x));
    heard = λ x. changed (noted_in noted) slots n new less x ∙ (λ i. cond (x == sym own i) (option_map noted (has i)) (heard_by noted slots x));
  }

  pub members_same : member_in (Some new) ≡ member_in (Some old) → members_by (slice_set slots n new) ≡ members_by slots
  members_same is = same member_in slots n old new less there is

-- an answer's clause, at what it answers
pub ok_then : {T F : Type 0} (r : Result T F) (P Q : T → Type 0) → ((x : T) → P x → Q x) → IfOk r P → IfOk r Q
ok_then (Ok x) P Q f p = f x p
ok_then (Err e) P Q f p = tt

pub err_then : {T F : Type 0} (r : Result T F) (P Q : Type 0) → (P → Q) → OnErr r P → OnErr r Q
err_then (Ok x) P Q f p = tt
err_then (Err e) P Q f p = f p
