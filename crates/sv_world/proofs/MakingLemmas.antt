-- Engines in the nodes of a world.
use Rattle.sv_world.proofs.Prelude.{◌≡◌, ◌≢◌, ℕ, ◌<◌, true, false, Option, Some, None, List, [], ◌∷◌, ◌++◌, drop, get_or, arith, refl, sym, ap, ◌∙◌, ⊎_elim}
use Rattle.sv_world.proofs.Prelude.{length-append, add-one, is_some, IfSome, slice_get, All, cases_eq, map-append, Rules, setting_by, Slot, engine_in}
use Rattle.sv_world.proofs.Prelude.{engine_by, setting_in, settings_by, IsIdle, AreFilled}
use Rattle.std.proofs.Common.{zero, suc, ◌+◌, map, take, length}
use Rattle.std.proofs.lemmas.List.{drop-drop}

module _ {X : Type 0} where
  -- the first of a list, and the rest
  pub first_rest : (xs : List X) (x : X) (ys : List X) → 0 < length xs → x ≡ get_or xs 0 x → ys ≡ take 0 xs ++ drop 1 xs → xs ≡ x ∷ ys
  first_rest [] x ys less is rest = absurd (omega arith)
  first_rest (z ∷ zs) x ys less is rest = λ i. sym is i ∷ sym rest i

  pub more_dropped : (all : List X) (i : ℕ) (xs : List X) (x : X) (ys : List X) → xs ≡ drop i all → xs ≡ x ∷ ys → ys ≡ drop (i + 1) all
  more_dropped all i xs x ys at is = ap (drop 1) (sym is ∙ at) ∙ drop-drop 1 i all

  pub more_taken : (all : List X) (i : ℕ) (xs : List X) (x : X) (ys : List X) → xs ≡ drop i all → xs ≡ x ∷ ys → take (i + 1) all ≡ take i all ++ x ∷ []
  more_taken [] zero xs x ys at is = absurd (let no : [] ≡ x ∷ ys = sym at ∙ is in cc)
  more_taken [] (suc i) xs x ys at is = absurd (let no : [] ≡ x ∷ ys = sym at ∙ is in cc)
  more_taken (z ∷ zs) zero xs x ys at is = let same : z ∷ zs ≡ x ∷ ys = sym at ∙ is in let head : z ≡ x = cc in ap (λ v. v ∷ []) head
  more_taken (z ∷ zs) (suc i) xs x ys at is = ap (λ k. take k (z ∷ zs)) (add-one (suc i)) ∙ ap (λ vs. z ∷ vs) (ap (λ k. take k zs) (sym (add-one i)) ∙ more_taken zs i xs x ys at is)

  pub push_get : {A : Type 0} (f : Option X → A) (xs : List X) (x : X) (n : ℕ) → n < length xs → f (slice_get (xs ++ x ∷ []) n) ≡ f (slice_get xs n)
  push_get f [] x n less = absurd (omega arith)
  push_get f (z ∷ zs) x zero less = refl
  push_get f (z ∷ zs) x (suc n) less = push_get f zs x n (omega arith)

  pub push_last : (xs : List X) (x : X) → slice_get (xs ++ x ∷ []) (length xs) ≡ Some x
  push_last [] x = refl
  push_last (z ∷ zs) x = push_last zs x

  pub all_push : (P : X → Type 0) (xs : List X) (x : X) → All P xs → P x → All P (xs ++ x ∷ [])
  all_push P [] x all h zero d less = h
  all_push P [] x all h (suc k) d less = absurd (omega arith)
  all_push P (z ∷ zs) x all h zero d less = all zero d (omega arith)
  all_push P (z ∷ zs) x all h (suc k) d less = all_push P zs x (λ j e l. all (suc j) e (omega arith)) h k d (omega arith)

  pub all_some : (P : X → Type 0) (xs : List X) → All P xs → (k : ℕ) → IfSome (slice_get xs k) P
  all_some P [] all k = tt
  all_some P (x ∷ xs) all zero = all zero x (omega arith)
  all_some P (x ∷ xs) all (suc k) = all_some P xs (λ j e l. all (suc j) e (omega arith)) k

module _ {E : Type 0} where
  -- one more node
  pub one_filled : (nodes : ℕ) (rules : Rules) (engines : List E) (slots : List (Slot E)) (e : E) (s : Slot E) → AreFilled nodes rules engines slots → s.idle ≡ Some e → s.core ≡ None → s.journal.items ≡ []
      → s.setting ≡ setting_by rules (length slots) nodes → AreFilled nodes rules (engines ++ e ∷ []) (slots ++ s ∷ [])
  one_filled nodes rules engines slots e s h idle core journal set =
      let engine : engine_in s ≡ Some e = engine_idle s e core idle in
      record {
        engines_in = map-append engine_in slots (s ∷ []) ∙ (λ i. h.engines_in i ++ engine i ∷ []) ∙ sym (map-append Some engines (e ∷ []));
        idle = all_push IsIdle slots s h.idle (record { core = core; journal = journal; idle = ap is_some idle });
        settings = λ n less. ⊎_elim
            (λ (last : n ≡ length slots). ap (λ k. settings_by (slots ++ s ∷ []) k) last ∙ ap setting_in (push_last slots s) ∙ set ∙ ap (λ k. setting_by rules k nodes) (sym last))
            (λ (before : n ≢ length slots). let below : n < length slots = omega (arith, length-append slots (s ∷ [])) in push_get setting_in slots s n below ∙ h.settings n below)
            (cases_eq n (length slots));
      }
    where
      engine_idle : (s : Slot E) (e : E) → s.core ≡ None → s.idle ≡ Some e → engine_in s ≡ Some e
      engine_idle s e core idle = ap (λ c. engine_by c s.idle) core ∙ idle

  -- one more engine
  pub one_taken : (slots : List (Slot E)) (i : ℕ) (rest : List (Slot E)) (s : Slot E) (behind : List (Slot E)) (engines : List E) (e : E) → rest ≡ drop i slots → rest ≡ s ∷ behind
      → map Some engines ≡ map engine_in (take i slots) → Some e ≡ engine_in s → map Some (engines ++ e ∷ []) ≡ map engine_in (take (i + 1) slots)
  one_taken slots i rest s behind engines e at is so here =
      map-append Some engines (e ∷ []) ∙ (λ j. so j ++ here j ∷ []) ∙ sym (map-append engine_in (take i slots) (s ∷ [])) ∙ ap (map engine_in) (sym (more_taken slots i rest s behind at is))

  -- that node has an engine
  pub has_engine : (slots : List (Slot E)) (i : ℕ) (rest : List (Slot E)) (s : Slot E) (behind : List (Slot E)) → rest ≡ drop i slots → rest ≡ s ∷ behind → All (λ s. is_some (engine_in s) ≡ true) slots → engine_in s ≡ None → ⊥
  has_engine [] zero rest s behind at is all none = absurd (let no : [] ≡ s ∷ behind = sym at ∙ is in cc)
  has_engine [] (suc i) rest s behind at is all none = absurd (let no : [] ≡ s ∷ behind = sym at ∙ is in cc)
  has_engine (z ∷ zs) zero rest s behind at is all none =
      let same : z ∷ zs ≡ s ∷ behind = sym at ∙ is in
      let head : z ≡ s = cc in
      let no : false ≡ true = sym (ap is_some (ap engine_in head ∙ none)) ∙ all zero z (omega arith) in cc
  has_engine (z ∷ zs) (suc i) rest s behind at is all none = has_engine zs i rest s behind at is (λ j e l. all (suc j) e (omega arith)) none
