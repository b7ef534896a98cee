-- Keys in their order in two parts.
use Rattle.sv_core.proofs.Prelude.{◌≡◌, ℕ, ◌<◌, ◌≤◌, Bool, true, false, cond, Option, Some, None, List, [], ◌∷◌, ◌++◌, length, arith, refl, sym, ap, ◌∙◌, subst}
use Rattle.sv_core.proofs.Prelude.{T, nat_lt, nat_le, list_any, find, put, is_sorted, below_all, by_order, is_lt, is_eq, nat_cmp, Less, Equal, Greater}
use Rattle.sv_core.proofs.Prelude.{nat_tests, Key, KeyState, Gone, key_cmp, same_key, is_over, first_over, Entry, Place, Rises, AreLow, AreHigh, are_within}
use Rattle.sv_core.proofs.Prelude.{AreWithin, seen, state_at, erase}
use Rattle.std.specs.Ordering.{ordering_then}
use Rattle.std.proofs.lemmas.List.Folds.{list_any_at}
use Rattle.sv_core.specs.Places.{are_low, are_high}
use Rattle.sv_core.proofs.OrderLemmas.{first, second, both, less}

-- ---- homes

less_home : (m n : ℕ) → m < n → nat_cmp m n ≡ Less
less_home m n is = grind (arith, nat_tests)

more_home : (m n : ℕ) → m < n → nat_cmp n m ≡ Greater
more_home m n is = grind (arith, nat_tests)

is_at_most : (m n : ℕ) → T (nat_le m n) → m ≤ n
is_at_most m n is = grind (arith, nat_tests)

at_most : (m n : ℕ) → m ≤ n → T (nat_le m n)
at_most m n is = grind (arith, nat_tests)

is_more : (m n : ℕ) → T (nat_lt m n) → m < n
is_more m n is = grind (arith, nat_tests)

more : (m n : ℕ) → m < n → T (nat_lt m n)
more m n is = grind (arith, nat_tests)

below_home : (k q : Key) → k.home < q.home → key_cmp k q ≡ Less
below_home k q is = ap (λ o. ordering_then o (nat_cmp k.serial q.serial)) (less_home k.home q.home is)

beyond_home : (k q : Key) → q.home < k.home → key_cmp k q ≡ Greater
beyond_home k q is = ap (λ o. ordering_then o (nat_cmp k.serial q.serial)) (more_home q.home k.home is)

-- a key of the first part is below all of the second
below_high : (k : Key) (home : ℕ) (ps : List Place) → k.home ≤ home → AreHigh home ps → T (below_all key_cmp k ps)
below_high k home [] is high = tt
below_high k home (p ∷ ps) is high =
    let beyond : home < p.0.home = is_more home p.0.home (first (nat_lt home p.0.home) (are_high home ps) high) in
    both (is_lt (key_cmp k p.0)) (below_all key_cmp k ps) (subst (λ o. T (is_lt o)) (sym (below_home k p.0 (omega (arith, is, beyond)))) tt)
    (below_high k home ps is (second (nat_lt home p.0.home) (are_high home ps) high))

-- ---- the parts

below_front : (k : Key) (ps qs : List Place) → T (below_all key_cmp k (ps ++ qs)) → T (below_all key_cmp k ps)
below_front k [] qs above = tt
below_front k (p ∷ ps) qs above =
    both (is_lt (key_cmp k p.0)) (below_all key_cmp k ps) (first (is_lt (key_cmp k p.0)) (below_all key_cmp k (ps ++ qs)) above)
    (below_front k ps qs (second (is_lt (key_cmp k p.0)) (below_all key_cmp k (ps ++ qs)) above))

pub front_rises : (ps qs : List Place) → Rises (ps ++ qs) → Rises ps
front_rises [] qs rises = tt
front_rises (p ∷ ps) qs rises =
    both (below_all key_cmp p.0 ps) (is_sorted key_cmp ps) (below_front p.0 ps qs (first (below_all key_cmp p.0 (ps ++ qs)) (is_sorted key_cmp (ps ++ qs)) rises))
    (front_rises ps qs (second (below_all key_cmp p.0 (ps ++ qs)) (is_sorted key_cmp (ps ++ qs)) rises))

pub back_rises : (ps qs : List Place) → Rises (ps ++ qs) → Rises qs
back_rises [] qs rises = rises
back_rises (p ∷ ps) qs rises = back_rises ps qs (second (below_all key_cmp p.0 (ps ++ qs)) (is_sorted key_cmp (ps ++ qs)) rises)

find_none : (k : Key) (ps : List Place) → T (below_all key_cmp k ps) → find key_cmp k ps ≡ None
find_none k [] above = refl
find_none k (p ∷ ps) above =
    ap (λ o. cond (is_eq o) (Some p.1) (find key_cmp k ps)) (less (key_cmp k p.0) (first (is_lt (key_cmp k p.0)) (below_all key_cmp k ps) above))
    ∙ find_none k ps (second (is_lt (key_cmp k p.0)) (below_all key_cmp k ps) above)

find_front : (k : Key) (ps qs : List Place) → T (below_all key_cmp k qs) → find key_cmp k (ps ++ qs) ≡ find key_cmp k ps
find_front k [] qs above = find_none k qs above
find_front k (p ∷ ps) qs above = ap (λ o. cond (is_eq (key_cmp k p.0)) (Some p.1) o) (find_front k ps qs above)

put_none : (k : Key) (at : ℕ) (ps : List Place) → T (below_all key_cmp k ps) → put key_cmp k at ps ≡ (k, at) ∷ ps
put_none k at [] above = refl
put_none k at (p ∷ ps) above =
    ap (λ o. by_order o ((k, at) ∷ p ∷ ps) ((p.0, at) ∷ ps) (p ∷ put key_cmp k at ps)) (less (key_cmp k p.0) (first (is_lt (key_cmp k p.0)) (below_all key_cmp k ps) above))

put_front : (k : Key) (at : ℕ) (ps qs : List Place) → T (below_all key_cmp k qs) → put key_cmp k at (ps ++ qs) ≡ put key_cmp k at ps ++ qs
put_front k at [] qs above = put_none k at qs above
put_front k at (p ∷ ps) qs above =
    elim (key_cmp k p.0) as (λ o. by_order o ((k, at) ∷ p ∷ (ps ++ qs)) ((p.0, at) ∷ (ps ++ qs)) (p ∷ put key_cmp k at (ps ++ qs)) ≡ by_order o ((k, at) ∷ p ∷ ps) ((p.0, at) ∷ ps) (p ∷ put key_cmp k at ps) ++ qs) [
      | Less ↦ refl
      | Equal ↦ refl
      | Greater ↦ ap (λ l. p ∷ l) (put_front k at ps qs above)
    ]

erase_none : (k : Key) (ps : List Place) → T (below_all key_cmp k ps) → erase k ps ≡ ps
erase_none k [] above = refl
erase_none k (p ∷ ps) above =
    ap (λ o. cond (is_eq o) ps (p ∷ erase k ps)) (less (key_cmp k p.0) (first (is_lt (key_cmp k p.0)) (below_all key_cmp k ps) above))
    ∙ ap (λ l. p ∷ l) (erase_none k ps (second (is_lt (key_cmp k p.0)) (below_all key_cmp k ps) above))

erase_front : (k : Key) (ps qs : List Place) → T (below_all key_cmp k qs) → erase k (ps ++ qs) ≡ erase k ps ++ qs
erase_front k [] qs above = erase_none k qs above
erase_front k (p ∷ ps) qs above =
    elim (same_key k p.0) as (λ b. cond b (ps ++ qs) (p ∷ erase k (ps ++ qs)) ≡ cond b ps (p ∷ erase k ps) ++ qs) [
      | true ↦ refl
      | false ↦ ap (λ l. p ∷ l) (erase_front k ps qs above)
    ]

module _ (home : ℕ) (k : Key) where
  beyond_low : (p : Place) (ps : List Place) → home < k.home → AreLow home (p ∷ ps) → key_cmp k p.0 ≡ Greater
  beyond_low p ps is low =
      let up : p.0.home ≤ home = is_at_most p.0.home home (first (nat_le p.0.home home) (are_low home ps) low) in
      beyond_home k p.0 (omega (arith, is, up))

  -- a key of the first part
  pub find_low : (ps qs : List Place) → k.home ≤ home → AreHigh home qs → find key_cmp k (ps ++ qs) ≡ find key_cmp k ps
  find_low ps qs is high = find_front k ps qs (below_high k home qs is high)

  pub put_low : (at : ℕ) (ps qs : List Place) → k.home ≤ home → AreHigh home qs → put key_cmp k at (ps ++ qs) ≡ put key_cmp k at ps ++ qs
  put_low at ps qs is high = put_front k at ps qs (below_high k home qs is high)

  pub low_put : (at : ℕ) (ps : List Place) → k.home ≤ home → AreLow home ps → AreLow home (put key_cmp k at ps)
  low_put at [] is low = both (nat_le k.home home) true (at_most k.home home is) tt
  low_put at (p ∷ ps) is low =
      let here = first (nat_le p.0.home home) (are_low home ps) low in
      let rest = second (nat_le p.0.home home) (are_low home ps) low in
      elim (key_cmp k p.0) as (λ o. T (are_low home (by_order o ((k, at) ∷ p ∷ ps) ((p.0, at) ∷ ps) (p ∷ put key_cmp k at ps)))) [
        | Less ↦ both (nat_le k.home home) (are_low home (p ∷ ps)) (at_most k.home home is) low
        | Equal ↦ both (nat_le p.0.home home) (are_low home ps) here rest
        | Greater ↦ both (nat_le p.0.home home) (are_low home (put key_cmp k at ps)) here (low_put at ps is rest)
      ]

  pub erase_low : (ps qs : List Place) → k.home ≤ home → AreHigh home qs → erase k (ps ++ qs) ≡ erase k ps ++ qs
  erase_low ps qs is high = erase_front k ps qs (below_high k home qs is high)

  pub low_erased : (ps : List Place) → AreLow home ps → AreLow home (erase k ps)
  low_erased [] low = tt
  low_erased (p ∷ ps) low =
      let here = first (nat_le p.0.home home) (are_low home ps) low in
      let rest = second (nat_le p.0.home home) (are_low home ps) low in
      elim (same_key k p.0) as (λ b. T (are_low home (cond b ps (p ∷ erase k ps)))) [
        | true ↦ rest
        | false ↦ both (nat_le p.0.home home) (are_low home (erase k ps)) here (low_erased ps rest)
      ]

  -- a key of the second part
  pub find_high : (ps qs : List Place) → home < k.home → AreLow home ps → find key_cmp k (ps ++ qs) ≡ find key_cmp k qs
  find_high [] qs is low = refl
  find_high (p ∷ ps) qs is low =
      ap (λ o. cond (is_eq o) (Some p.1) (find key_cmp k (ps ++ qs))) (beyond_low p ps is low) ∙ find_high ps qs is (second (nat_le p.0.home home) (are_low home ps) low)

  pub put_high : (at : ℕ) (ps qs : List Place) → home < k.home → AreLow home ps → put key_cmp k at (ps ++ qs) ≡ ps ++ put key_cmp k at qs
  put_high at [] qs is low = refl
  put_high at (p ∷ ps) qs is low =
      ap (λ o. by_order o ((k, at) ∷ p ∷ (ps ++ qs)) ((p.0, at) ∷ (ps ++ qs)) (p ∷ put key_cmp k at (ps ++ qs))) (beyond_low p ps is low)
      ∙ ap (λ l. p ∷ l) (put_high at ps qs is (second (nat_le p.0.home home) (are_low home ps) low))

  pub high_put : (at : ℕ) (ps : List Place) → home < k.home → AreHigh home ps → AreHigh home (put key_cmp k at ps)
  high_put at [] is high = both (nat_lt home k.home) true (more home k.home is) tt
  high_put at (p ∷ ps) is high =
      let here = first (nat_lt home p.0.home) (are_high home ps) high in
      let rest = second (nat_lt home p.0.home) (are_high home ps) high in
      elim (key_cmp k p.0) as (λ o. T (are_high home (by_order o ((k, at) ∷ p ∷ ps) ((p.0, at) ∷ ps) (p ∷ put key_cmp k at ps)))) [
        | Less ↦ both (nat_lt home k.home) (are_high home (p ∷ ps)) (more home k.home is) high
        | Equal ↦ both (nat_lt home p.0.home) (are_high home ps) here rest
        | Greater ↦ both (nat_lt home p.0.home) (are_high home (put key_cmp k at ps)) here (high_put at ps is rest)
      ]

  pub erase_high : (ps qs : List Place) → home < k.home → AreLow home ps → erase k (ps ++ qs) ≡ ps ++ erase k qs
  erase_high [] qs is low = refl
  erase_high (p ∷ ps) qs is low =
      ap (λ o. cond (is_eq o) (ps ++ qs) (p ∷ erase k (ps ++ qs))) (beyond_low p ps is low) ∙ ap (λ l. p ∷ l) (erase_high ps qs is (second (nat_le p.0.home home) (are_low home ps) low))

  pub high_erased : (ps : List Place) → AreHigh home ps → AreHigh home (erase k ps)
  high_erased [] high = tt
  high_erased (p ∷ ps) high =
      let here = first (nat_lt home p.0.home) (are_high home ps) high in
      let rest = second (nat_lt home p.0.home) (are_high home ps) high in
      elim (same_key k p.0) as (λ b. T (are_high home (cond b ps (p ∷ erase k ps)))) [
        | true ↦ rest
        | false ↦ both (nat_lt home p.0.home) (are_high home (erase k ps)) here (high_erased ps rest)
      ]

-- ---- a walk over both

pub seen_append : (states : List KeyState) (ps qs : List Place) → seen states (ps ++ qs) ≡ seen states ps ++ seen states qs
seen_append states [] qs = refl
seen_append states (p ∷ ps) qs = ap (λ l. (p.0, state_at states p.1) ∷ l) (seen_append states ps qs)

pub front_within : (n : ℕ) (ps qs : List Place) → AreWithin n (ps ++ qs) → AreWithin n ps
front_within n [] qs within = tt
front_within n (p ∷ ps) qs within =
    both (nat_lt p.1 n) (are_within n ps) (first (nat_lt p.1 n) (are_within n (ps ++ qs)) within) (front_within n ps qs (second (nat_lt p.1 n) (are_within n (ps ++ qs)) within))

pub back_within : (n : ℕ) (ps qs : List Place) → AreWithin n (ps ++ qs) → AreWithin n qs
back_within n [] qs within = within
back_within n (p ∷ ps) qs within = back_within n ps qs (second (nat_lt p.1 n) (are_within n (ps ++ qs)) within)

front_by : (b : Bool) (e x : Entry) (o p : Option Entry) → cond b (Some e) o ≡ Some x → (o ≡ Some x → p ≡ Some x) → cond b (Some e) p ≡ Some x
front_by true e x o p found later = found
front_by false e x o p found later = later found

-- what is found among the first of them
over_front : (now : ℕ) (es fs : List Entry) (x : Entry) → first_over now es ≡ Some x → first_over now (es ++ fs) ≡ Some x
over_front now [] fs x found = absurd (let no : None ≡ Some x = found in cc)
over_front now (e ∷ es) fs x found = front_by (is_over now e.1) e x (first_over now es) (first_over now (es ++ fs)) found (over_front now es fs x)

back_by : (b : Bool) (e : Entry) (o p r : Option Entry) → cond b (Some e) o ≡ None → (o ≡ None → p ≡ r) → cond b (Some e) p ≡ r
back_by true e o p r none later = absurd (let no : Some e ≡ None = none in cc)
back_by false e o p r none later = later none

-- where nothing is found among them, what is found among the others
over_back : (now : ℕ) (es fs : List Entry) → first_over now es ≡ None → first_over now (es ++ fs) ≡ first_over now fs
over_back now [] fs none = refl
over_back now (e ∷ es) fs none = back_by (is_over now e.1) e (first_over now es) (first_over now (es ++ fs)) (first_over now fs) none (over_back now es fs)

module _ (now : ℕ) (states : List KeyState) (low high read : List Place) (same : read ≡ low) where
  pub over_low : (x : Entry) → Some x ≡ first_over now (seen states read) → Some x ≡ first_over now (seen states (low ++ high))
  over_low x is =
      sym (ap (first_over now) (seen_append states low high) ∙ over_front now (seen states low) (seen states high) x (ap (λ l. first_over now (seen states l)) (sym same) ∙ sym is))

  pub over_high : (others : List Place) (o : Option Entry) → None ≡ first_over now (seen states read) → others ≡ high → o ≡ first_over now (seen states others) → o ≡ first_over now (seen states (low ++ high))
  over_high others o none alike is =
      is ∙ ap (λ l. first_over now (seen states l)) alike
      ∙ sym (ap (first_over now) (seen_append states low high) ∙ over_back now (seen states low) (seen states high) (ap (λ l. first_over now (seen states l)) (sym same) ∙ sym none))

-- ---- no session has expired

fails_if : (b : Bool) → (b ≡ true → ⊥) → b ≡ false
fails_if true fails = absurd (fails refl)
fails_if false fails = refl

none_over : (now : ℕ) (states : List KeyState) (ps : List Place) → list_any (is_over now) states ≡ false → AreWithin (length states) ps → first_over now (seen states ps) ≡ None
none_over now states [] none within = refl
none_over now states (p ∷ ps) none within =
    let here : p.1 < length states = is_more p.1 (length states) (first (nat_lt p.1 (length states)) (are_within (length states) ps) within) in
    ap (λ b. cond b (Some (p.0, state_at states p.1)) (first_over now (seen states ps)))
    (fails_if (is_over now (state_at states p.1)) (λ is. let no : true ≡ false = sym (list_any_at (is_over now) states p.1 (Gone 0) here is) ∙ none in cc))
    ∙ none_over now states ps none (second (nat_lt p.1 (length states)) (are_within (length states) ps) within)

pub nobody_over : (now : ℕ) (states : List KeyState) (ps : List Place) (b : Bool) → b ≡ list_any (is_over now) states → b ≡ false → AreWithin (length states) ps → None ≡ first_over now (seen states ps)
nobody_over now states ps b tests is within = sym (none_over now states ps (sym tests ∙ is) within)
