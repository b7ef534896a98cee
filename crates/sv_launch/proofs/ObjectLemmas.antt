-- Names and what they stand for, context by context.
use Rattle.std.proofs.Common.{◌≡◌, ℕ, ◌+◌, zero, suc, ◌<◌, ◌≤◌, List, [], ◌∷◌, ◌++◌, length, get_or, drop, map, true, Option, None, arith, refl, sym, ap, ◌∙◌}
use Rattle.std.specs.Prelude.{is_none}
use Rattle.std.specs.List.{list_any}
use Rattle.std.proofs.Math.Bool.{or-true}
use Rattle.std.proofs.Math.Seq.{drop-cons}
use Rattle.std.proofs.lemmas.List.{append-nil, append_assoc, drop_all}
use Rattle.std.proofs.lemmas.List.Folds.{list_any-append}
use Rattle.sv_config.specs.Values.{ContextData}
use Rattle.sv_launch.specs.Objects.{Lookup, looked_up, lookups, is_missing}

-- a name that stands for nothing
pub found : {K N : Type 0} (named : ℕ → List ℕ → Option K) (context : ℕ) (view : N → List ℕ) (names : List N) (i : ℕ) (d : N) → i < length names → named context (view (get_or names i d)) ≡ None
    → list_any is_missing (looked_up named context (map view names)) ≡ true
found named context view [] i d h none = elim h [ ]
found named context view (n ∷ ns) zero d h none = rw none refl
found named context view (n ∷ ns) (suc i) d h none =
    let below : i < length ns = omega (arith, h) in
    let more = found named context view ns i d below none in
    rw (more, or-true (is_none (named context (view n)))) refl

module _ {K C : Type 0} (named : ℕ → List ℕ → Option K) (names : ContextData → List (List ℕ)) (view : C → ContextData) (cs : List C) where
  -- the next context's names come first
  stepped : (i : ℕ) (d : C) → i < length cs
      → lookups named names i (map view (drop i cs)) ≡ looked_up named i (names (view (get_or cs i d))) ++ lookups named names (i + 1) (map view (drop (i + 1) cs))
  unfolding lookups
  stepped i d h =
      let next : suc i ≡ i + 1 = omega arith in
      ap (λ more. lookups named names i (map view more)) (drop-cons cs i d h ∙ ap (λ k. get_or cs i d ∷ drop k cs) next)

  joined : (i : ℕ) (d : C) (old total : List (Lookup K)) (ns : List (List ℕ)) → i < length cs → ns ≡ names (view (get_or cs i d))
      → old ++ lookups named names i (map view (drop i cs)) ≡ total → old ++ (looked_up named i ns ++ lookups named names (i + 1) (map view (drop (i + 1) cs))) ≡ total
  joined i d old total ns h is all = ap (λ r. old ++ r) (ap (λ m. looked_up named i m ++ lookups named names (i + 1) (map view (drop (i + 1) cs))) is ∙ sym (stepped i d h)) ∙ all

  pub goes_on : (i : ℕ) (d : C) (old new total : List (Lookup K)) (ns : List (List ℕ)) → i < length cs → ns ≡ names (view (get_or cs i d)) → new ≡ old ++ looked_up named i ns
      → old ++ lookups named names i (map view (drop i cs)) ≡ total → new ++ lookups named names (i + 1) (map view (drop (i + 1) cs)) ≡ total
  goes_on i d old new total ns h is more all =
      let rest = lookups named names (i + 1) (map view (drop (i + 1) cs)) in
      ap (λ seen. seen ++ rest) more ∙ (append_assoc old (looked_up named i ns) rest ∙ joined i d old total ns h is all)

  pub misses : (i : ℕ) (d : C) (old total : List (Lookup K)) (ns : List (List ℕ)) → i < length cs → ns ≡ names (view (get_or cs i d)) → list_any is_missing (looked_up named i ns) ≡ true
      → old ++ lookups named names i (map view (drop i cs)) ≡ total → list_any is_missing total ≡ true
  misses i d old total ns h is missing all =
      let rest = lookups named names (i + 1) (map view (drop (i + 1) cs)) in
      rw (sym (joined i d old total ns h is all), list_any-append is_missing old (looked_up named i ns ++ rest), list_any-append is_missing (looked_up named i ns) rest, missing) (or-true (list_any is_missing old))

  pub ends : (i : ℕ) (old total : List (Lookup K)) → length cs ≤ i → old ++ lookups named names i (map view (drop i cs)) ≡ total → old ≡ total
  unfolding lookups
  ends i old total h all =
      let nothing : lookups named names i (map view (drop i cs)) ≡ [] = rw (drop_all i cs h) refl in
      sym (append-nil old) ∙ (ap (λ r. old ++ r) (sym nothing) ∙ all)
