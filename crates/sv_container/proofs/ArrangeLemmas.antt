-- Objects that are brought into an order, one by one.
use Rattle.sv_container.proofs.Prelude.{◌≡◌, ◌≢◌, ℕ, ◌<◌, ◌≤◌, ◌+◌, List, [], ◌∷◌, ◌++◌, length, get_or, set, take, drop, map, arith, sym, ◌∙◌, ap, refl, subst}
use Rattle.sv_container.proofs.Prelude.{⊎_elim, cases_eq, append_assoc, append-nil, drop_all, drop_more, get_or-map, length-map, map-append, map_more}
use Rattle.sv_container.proofs.Prelude.{take_more_set, IsFoundAt, declared_from, label, label_of, labels_of, Named}
use Rattle.std.specs.List.{SwappedAt}
use Rattle.std.proofs.lemmas.List.{length-set, take-set, take-set-le}

-- an element that is swapped in stands after those before it
swapped_in : {X : Type 0} (xs : List X) (at place : ℕ) (d v : X) → at ≤ place → place < length xs → v ≡ get_or xs at d
    → take (at + 1) (set (set xs at (get_or xs place d)) place v) ≡ take at xs ++ get_or xs place d ∷ []
swapped_in xs at place d v behind within e = ⊎_elim
    (λ (q : place ≡ at).
    let h : at < length (set xs at (get_or xs place d)) = rw (length-set xs at (get_or xs place d)) (omega (arith, behind, within)) in
    rw (q, take_more_set (set xs at (get_or xs at d)) at v (rw q at h), take-set xs at (get_or xs at d), e) refl)
    (λ (q : place ≢ at).
    let b : at + 1 ≤ place = omega (arith, q, behind) in
    take-set-le (at + 1) (set xs at (get_or xs place d)) place v b ∙ take_more_set xs at (get_or xs place d) (omega (arith, behind, within)))
    (cases_eq place at)

pub none_labelled : (O : Type 0) (all : List (ℕ × List ℕ)) → labels_of {O = O} [] ++ all ≡ all
unfolding labels_of
none_labelled O all = refl

pub an_element : {X : Type 0} (xs : List X) (i : ℕ) → i < length xs → X
an_element [] i h = absurd (omega (arith, h))
an_element (x ∷ xs) i h = x

module _ {O : Type 0} where
  -- one more object stands at its place
  pub one_more_found : (xs ys : List (Named O)) (at place : ℕ) (its : ℕ × List ℕ) (d : Named O) → IsFoundAt xs at its place → SwappedAt xs ys at place
      → labels_of (take (at + 1) ys) ≡ labels_of (take at xs) ++ its ∷ []
  unfolding labels_of
  one_more_found xs ys at place its d found swap =
      ap (λ zs. map label_of (take (at + 1) zs)) (swap.3 d)
      ∙ (ap (map label_of) (swapped_in xs at place d (get_or xs at d) found.behind found.within refl)
      ∙ (map-append label_of (take at xs) (get_or xs place d ∷ [])
      ∙ ap (λ l. map label_of (take at xs) ++ l ∷ []) (found.named d)))

  -- and with it one more of the names of its context
  pub one_more_named : {N : Type 0} (f : N → List ℕ) (names : List N) (xs seen ys : List (Named O)) (from count place context : ℕ) (name : N)
      (text : List ℕ) (was : List (ℕ × List ℕ)) → count < length names → name ≡ get_or names count name → text ≡ f name → seen ≡ xs
      → IsFoundAt seen (from + count) (label context text) place → SwappedAt xs ys (from + count) place
      → labels_of (take (from + count) xs) ≡ was ++ map (label context) (take count (map f names))
      → labels_of (take (from + (count + 1)) ys) ≡ was ++ map (label context) (take (count + 1) (map f names))
  one_more_named f names xs seen ys from count place context name text was within is spelt view found swap named =
      let before = map (label context) (take count (map f names)) in
      let there : IsFoundAt xs (from + count) (label context text) place = subst (λ (ns : List (Named O)). IsFoundAt ns (from + count) (label context text) place) view found in
      let same : get_or (map f names) count text ≡ text = get_or-map f names count name text within ∙ (ap f (sym is) ∙ sym spelt) in
      let long : count < length (map f names) = rw (length-map names f) within in
      let more : map (label context) (take (count + 1) (map f names)) ≡ before ++ label context text ∷ []
      = map_more (label context) (map f names) count text long ∙ ap (λ (t : List ℕ). before ++ label context t ∷ []) same in
      let next : from + (count + 1) ≡ (from + count) + 1 = omega arith in
      ap (λ (n : ℕ). labels_of (take n ys)) next
      ∙ (one_more_found xs ys (from + count) place (label context text) (an_element xs place there.within) there swap
      ∙ (ap (λ (l : List (ℕ × List ℕ)). l ++ label context text ∷ []) named
      ∙ (append_assoc was before (label context text ∷ [])
      ∙ ap (λ (l : List (ℕ × List ℕ)). was ++ l) (sym more))))

-- the names of one more context are in order
pub one_more_context : {C : Type 0} (f : C → List (List ℕ)) (cs : List C) (n : ℕ) (c : C) (its : List (List ℕ)) (was step all : List (ℕ × List ℕ))
    → n < length cs → c ≡ get_or cs n c → its ≡ f c → step ≡ was ++ map (label n) its
    → was ++ declared_from n (drop n (map f cs)) ≡ all
    → step ++ declared_from (n + 1) (drop (n + 1) (map f cs)) ≡ all
unfolding declared_from
one_more_context f cs n c its was step all within is names more before =
    let rest = declared_from (n + 1) (drop (n + 1) (map f cs)) in
    let long : n < length (map f cs) = rw (length-map cs f) within in
    let here : get_or (map f cs) n its ≡ its = get_or-map f cs n c its within ∙ (ap f (sym is) ∙ sym names) in
    let split : declared_from n (drop n (map f cs)) ≡ map (label n) its ++ rest
    = ap (declared_from n) (drop_more (map f cs) n its long) ∙ ap (λ (l : List (List ℕ)). map (label n) l ++ rest) here in
    ap (λ (l : List (ℕ × List ℕ)). l ++ rest) more
    ∙ (append_assoc was (map (label n) its) rest
    ∙ (ap (λ (l : List (ℕ × List ℕ)). was ++ l) (sym split) ∙ before))

pub no_more_contexts : {C : Type 0} (f : C → List (List ℕ)) (cs : List C) (n : ℕ) (was all : List (ℕ × List ℕ)) → length cs ≤ n
    → was ++ declared_from n (drop n (map f cs)) ≡ all → was ≡ all
unfolding declared_from
no_more_contexts f cs n was all h before =
    let past : length (map f cs) ≤ n = rw (length-map cs f) h in
    sym (append-nil was) ∙ (ap (λ (l : List (List (List ℕ))). was ++ declared_from n l) (sym (drop_all n (map f cs) past)) ∙ before)
