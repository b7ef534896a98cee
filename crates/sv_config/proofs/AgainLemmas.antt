-- Items that are equal to one before them, and names that are looked for.
use Rattle.sv_config.proofs.Prelude.{◌≡◌, ◌∙◌, ℕ, ◌+◌, ◌<◌, true, cond, List, [], ◌∷◌, ◌++◌, length, map, take, drop, get_or, bytes_eq, refl, ap, Bor}
use Rattle.sv_config.proofs.Prelude.{append_assoc, ◌||◌, not, list_any, eq_by_cmp, slice_cmp, drop_more, map-append, Text, Spot, spot, repeated}
use Rattle.sv_config.proofs.Prelude.{repeated_behind}
use Rattle.std.proofs.Common.{Bool, false, nat_cmp, is_eq}
use Rattle.std.proofs.lemmas.List.{map_more}
use Rattle.std.proofs.lemmas.List.Folds.{list_any-append}
use Rattle.std.proofs.lemmas.Map.Text.{is_eq-slice_cmp}
use Rattle.sv_config.specs.declared.place.FaultPlace.{FaultPlace}

or_last : (a b : Bool) → cond a true b ≡ (b || (a || false))
or_last true true = refl
or_last true false = refl
or_last false true = refl
or_last false false = refl

module _ {K : Type 0} (same : K → K → Bool) (items : List (K × FaultPlace)) (i : ℕ) (d : K × FaultPlace) (within : i < length items) where
  abbrev keys_to : ℕ → List K
  keys_to n = map (λ j. j.0) (take n items)

  abbrev places_from : ℕ → List (K × Spot)
  places_from n = map (λ j. (j.0, spot j.1)) (drop n items)

  -- one item more has passed
  pub passed_more : (key : K) (new old : Bool) → new ≡ cond (same (get_or items i d).0 key) true old → old ≡ list_any (λ x. same x key) (keys_to i)
      → new ≡ list_any (λ x. same x key) (keys_to (i + 1))
  passed_more key new old now before =
      rw (map_more (λ (j : K × FaultPlace). j.0) items i d within, list_any-append (λ x. same x key) (keys_to i) ((get_or items i d).0 ∷ []), ← before)
      (now ∙ or_last (same (get_or items i d).0 key) old)

  -- and its place is added where it is equal to one before
  pub again_more : (out : List Spot) (holds : Bool) → holds ≡ list_any (λ x. same x (get_or items i d).0) (keys_to i)
      → (out ++ cond holds (spot (get_or items i d).1 ∷ []) []) ++ repeated_behind same (keys_to (i + 1)) (places_from (i + 1))
      ≡ out ++ repeated_behind same (keys_to i) (places_from i)
  again_more out holds is =
      rw (drop_more items i d within, map_more (λ (j : K × FaultPlace). j.0) items i d within, ← is)
      (append_assoc out (cond holds (spot (get_or items i d).1 ∷ []) []) (repeated_behind same (keys_to i ++ (get_or items i d).0 ∷ []) (places_from (i + 1))))

-- ---- texts after references

abbrev Lent : Type 0
Lent = Bor (List ℕ)

abbrev texts_shown : List Lent → List Text
texts_shown texts = map (λ text. text.now) texts

any_shown : (text : Lent) (before : List Lent) → list_any (λ (x : Lent). is_eq (slice_cmp nat_cmp x.now text.now)) before ≡ list_any (λ x. bytes_eq x text.now) (map (λ x. x.now) before)
any_shown text [] = refl
any_shown text (x ∷ before) = rw (is_eq-slice_cmp x.now text.now, any_shown text before)

behind_shown : (before : List Lent) (items : List (Lent × Spot))
    → repeated_behind (eq_by_cmp (λ (x y : Lent). slice_cmp nat_cmp x.now y.now)) before items
    ≡ repeated_behind bytes_eq (map (λ x. x.now) before) (map (λ i. (i.0.now, i.1)) items)
behind_shown before [] = refl
behind_shown before (i ∷ items) =
    rw (any_shown i.0 before, behind_shown (before ++ i.0 ∷ []) items, map-append (λ (x : Lent). x.now) before (i.0 ∷ [])) refl

abbrev item_of : Lent × FaultPlace → Lent × Spot
item_of i = (i.0, spot i.1)

abbrev item_shown : Lent × Spot → Text × Spot
item_shown i = (i.0.now, i.1)

abbrev shown_of : Lent × FaultPlace → Text × Spot
shown_of i = (i.0.now, spot i.1)

shown_after : (items : List (Lent × FaultPlace)) → map item_shown (map item_of items) ≡ map shown_of items
shown_after [] = refl
shown_after (i ∷ items) = ap (λ rest. shown_of i ∷ rest) (shown_after items)

pub texts_again : (items : List (Lent × FaultPlace))
    → repeated (eq_by_cmp (λ (x y : Lent). slice_cmp nat_cmp x.now y.now)) (map (λ i. (i.0, spot i.1)) items)
    ≡ repeated bytes_eq (map (λ i. (i.0.now, spot i.1)) items)
texts_again items = behind_shown [] (map (λ i. (i.0, spot i.1)) items) ∙ ap (repeated bytes_eq) (shown_after items)

not_twice : (b : Bool) → not (not b) ≡ b
not_twice true = refl
not_twice false = refl

-- what is not new was there
pub was_there : (is_new had : Bool) → is_new ≡ not had → not is_new ≡ had
was_there is_new had e = ap not e ∙ not_twice had

-- one name more
pub found_more : (text : Text) (names : List Lent) (i : ℕ) (d : Lent) (new old : Bool) → i < length names
    → new ≡ cond (is_eq (slice_cmp nat_cmp (get_or names i d).now text)) true old
    → old ≡ list_any (λ name. bytes_eq name text) (texts_shown (take i names))
    → new ≡ list_any (λ name. bytes_eq name text) (texts_shown (take (i + 1) names))
found_more text names i d new old within more before =
    let here : new ≡ cond (bytes_eq (get_or names i d).now text) true old = rw (is_eq-slice_cmp (get_or names i d).now text) at more in
    let shown : Lent → Text = λ name. name.now in
    rw (map_more shown names i d within, list_any-append (λ name. bytes_eq name text) (texts_shown (take i names)) ((get_or names i d).now ∷ []), ← before)
    (here ∙ or_last (bytes_eq (get_or names i d).now text) old)
