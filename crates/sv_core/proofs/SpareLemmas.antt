-- The places of a table that no key has.
use Rattle.sv_core.proofs.Prelude.{◌≡◌, ◌≢◌, ℕ, ◌+◌, ◌<◌, ◌≤◌, true, Some, List, [], ◌∷◌, ◌++◌, length, set, arith, refl, sym, ap, ◌∙◌, subst, ⊎_elim, T, ◌&&◌}
use Rattle.sv_core.proofs.Prelude.{◌==◌, not, nat_lt, find, put, length-set, Key, KeyState, key_cmp, Place, AreWithin, AreApart, is_free, AreBelow, AreSpare}
use Rattle.sv_core.proofs.Prelude.{state_at, erase}
use Rattle.sv_core.specs.Places.{are_below, is_other, is_spare, are_spare, IsPutDown}
use Rattle.sv_core.proofs.OrderLemmas.{first, second, both}
use Rattle.sv_core.proofs.PlaceLemmas.{AreSame, is_below, below_is, apart_is, is_apart, free_within, free_put, free_found, same_free, same_push, set_there, push_there}
use Rattle.sv_core.proofs.EraseLemmas.{free_erased, freed}

pub spare_below : (n : ℕ) (ps : List Place) (free : List ℕ) → AreSpare n ps free → AreBelow n free
spare_below n ps [] s = tt
spare_below n ps (at ∷ free) s =
    both (nat_lt at n) (are_below n free) (first (nat_lt at n) (is_free at ps && is_other at free) (first (is_spare n ps at free) (are_spare n ps free) s)) (spare_below n ps free (second (is_spare n ps at free) (are_spare n ps free) s))

-- ---- the last of them

pub last_below : (n : ℕ) (left : List ℕ) (at : ℕ) → AreBelow n (left ++ at ∷ []) → at < n
last_below n [] at s = below_is at n (first (nat_lt at n) true s)
last_below n (b ∷ left) at s = last_below n left at (second (nat_lt b n) (are_below n (left ++ at ∷ [])) s)

last_spare : (n : ℕ) (ps : List Place) (left : List ℕ) (at : ℕ) → AreSpare n ps (left ++ at ∷ []) → T (is_spare n ps at [])
last_spare n ps [] at s = first (is_spare n ps at []) true s
last_spare n ps (b ∷ left) at s = last_spare n ps left at (second (is_spare n ps b (left ++ at ∷ [])) (are_spare n ps (left ++ at ∷ [])) s)

other_last : (b : ℕ) (left : List ℕ) (at : ℕ) → T (is_other b (left ++ at ∷ [])) → (at ≢ b) × T (is_other b left)
other_last b [] at is = (apart_is at b (first (not (at == b)) true is), tt)
other_last b (c ∷ left) at is =
    let rest = other_last b left at (second (not (c == b)) (is_other b (left ++ at ∷ [])) is) in
    (rest.0, both (not (c == b)) (is_other b left) (first (not (c == b)) (is_other b (left ++ at ∷ [])) is) rest.1)

-- the others stay, where a key is put at it
rest_spare : (n : ℕ) (k : Key) (ps : List Place) (left : List ℕ) (at : ℕ) → AreSpare n ps (left ++ at ∷ []) → AreSpare n (put key_cmp k at ps) left
rest_spare n k ps [] at s = tt
rest_spare n k ps (b ∷ left) at s =
    let one = first (is_spare n ps b (left ++ at ∷ [])) (are_spare n ps (left ++ at ∷ [])) s in
    let two = second (nat_lt b n) (is_free b ps && is_other b (left ++ at ∷ [])) one in
    let other = other_last b left at (second (is_free b ps) (is_other b (left ++ at ∷ [])) two) in
    both (is_spare n (put key_cmp k at ps) b left) (are_spare n (put key_cmp k at ps) left)
    (both (nat_lt b n) (is_free b (put key_cmp k at ps) && is_other b left) (first (nat_lt b n) (is_free b ps && is_other b (left ++ at ∷ [])) one)
    (both (is_free b (put key_cmp k at ps)) (is_other b left) (free_put k at b ps other.0 (first (is_free b ps) (is_other b (left ++ at ∷ [])) two)) other.1))
    (rest_spare n k ps left at (second (is_spare n ps b (left ++ at ∷ [])) (are_spare n ps (left ++ at ∷ [])) s))

-- ---- one more

other_more : (b : ℕ) (free : List ℕ) (at : ℕ) → at ≢ b → T (is_other b free) → T (is_other b (free ++ at ∷ []))
other_more b [] at apart is = both (not (at == b)) true (is_apart at b apart) tt
other_more b (c ∷ free) at apart is =
    both (not (c == b)) (is_other b (free ++ at ∷ [])) (first (not (c == b)) (is_other b free) is) (other_more b free at apart (second (not (c == b)) (is_other b free) is))

-- the place of a key that is taken out
pub spare_more : (n : ℕ) (k : Key) (at : ℕ) (ps : List Place) (free : List ℕ) → find key_cmp k ps ≡ Some at → at < n → AreApart ps → AreSpare n ps free → AreSpare n (erase k ps) (free ++ at ∷ [])
spare_more n k at ps [] is less apart s =
    both (is_spare n (erase k ps) at []) true (both (nat_lt at n) (is_free at (erase k ps) && true) (is_below at n less) (both (is_free at (erase k ps)) true (freed k at ps is apart) tt)) tt
spare_more n k at ps (b ∷ free) is less apart s =
    let one = first (is_spare n ps b free) (are_spare n ps free) s in
    let two = second (nat_lt b n) (is_free b ps && is_other b free) one in
    let not_b : b ≢ at = free_found k b at ps is (first (is_free b ps) (is_other b free) two) in
    both (is_spare n (erase k ps) b (free ++ at ∷ [])) (are_spare n (erase k ps) (free ++ at ∷ []))
    (both (nat_lt b n) (is_free b (erase k ps) && is_other b (free ++ at ∷ [])) (first (nat_lt b n) (is_free b ps && is_other b free) one)
    (both (is_free b (erase k ps)) (is_other b (free ++ at ∷ [])) (free_erased b k ps (first (is_free b ps) (is_other b free) two)) (other_more b free at (λ same. not_b (sym same)) (second (is_free b ps) (is_other b free) two))))
    (spare_more n k at ps free is less apart (second (is_spare n ps b free) (are_spare n ps free) s))

-- ---- a state is put down

pub record IsDown (k : Key) (st : KeyState) (states new : List KeyState) (ps : List Place) (at : ℕ) : Type 0 where
  pub there : state_at new at ≡ st
  pub same : AreSame k states new ps
  pub more : length states ≤ length new
  pub less : at < length new
  pub free : T (is_free at ps)

length_push : (states : List KeyState) (st : KeyState) → length (states ++ st ∷ []) ≡ length states + 1
length_push [] st = refl
length_push (s ∷ states) st = omega (arith, length_push states st)

module _ (k : Key) (st : KeyState) (states new : List KeyState) (ps : List Place) (free left : List ℕ) (at : ℕ) where
  abbrev AtFree : Type 0
  AtFree = (free ≡ left ++ at ∷ []) × (new ≡ set states at st)

  abbrev Behind : Type 0
  Behind = (free ≡ []) × (left ≡ []) × (at ≡ length states) × (new ≡ states ++ st ∷ [])

  at_free : AtFree → AreSpare (length states) ps free → IsDown k st states new ps at
  at_free t spare =
      let last : T (is_spare (length states) ps at []) = last_spare (length states) ps left at (subst (AreSpare (length states) ps) t.0 spare) in
      let less : at < length states = below_is at (length states) (first (nat_lt at (length states)) (is_free at ps && true) last) in
      let is : T (is_free at ps) = first (is_free at ps) true (second (nat_lt at (length states)) (is_free at ps && true) last) in
      let many : length new ≡ length states = ap length t.1 ∙ length-set states at st in
      record {
        there = ap (λ l. state_at l at) t.1 ∙ set_there states at st less;
        same = subst (λ l. AreSame k states l ps) (sym t.1) (same_free k at st states ps is);
        more = omega (arith, many);
        less = omega (arith, many, less);
        free = is;
      }

  at_end : Behind → AreWithin (length states) ps → IsDown k st states new ps at
  at_end t within =
      let many : length new ≡ length states + 1 = ap length t.3 ∙ length_push states st in
      record {
        there = (λ i. state_at (t.3 i) (t.2 i)) ∙ push_there states st;
        same = subst (λ l. AreSame k states l ps) (sym t.3) (same_push k st states ps within);
        more = omega (arith, many);
        less = omega (arith, many, t.2);
        free = subst (λ n. T (is_free n ps)) (sym t.2) (free_within (length states) ps within);
      }

  pub is_down : IsPutDown states free new left at st → AreWithin (length states) ps → AreSpare (length states) ps free → IsDown k st states new ps at
  is_down down within spare = ⊎_elim (λ (t : AtFree). at_free t spare) (λ (t : Behind). at_end t within) down

  pub new_spare : IsPutDown states free new left at st → AreSpare (length states) ps free → AreSpare (length new) (put key_cmp k at ps) left
  new_spare down spare = ⊎_elim
      (λ (t : AtFree). subst (λ n. AreSpare n (put key_cmp k at ps) left) (sym (ap length t.1 ∙ length-set states at st)) (rest_spare (length states) k ps left at (subst (AreSpare (length states) ps) t.0 spare)))
      (λ (t : Behind). subst (AreSpare (length new) (put key_cmp k at ps)) (sym t.1) tt)
      down
