-- Entries that rise by their texts: what a search finds, and an entry that goes in at its place.
use Rattle.sv_mapping.proofs.Prelude.{◌≡◌, ℕ, zero, suc, ◌<◌, true, cond, List, [], ◌∷◌, length, get_or, Some, None, refl, sym, ap, ◌∙◌, arith, and_parts}
use Rattle.sv_mapping.proofs.Prelude.{insert, is_eq, tied_itself, nat_list_cmp_total, Ordering, Less, Equal, Greater, find, is_sorted, from_sorted}
use Rattle.sv_mapping.proofs.Prelude.{entries-from_sorted, Text, text_cmp, IsPlaceOf, IsGapFor}
use Rattle.std.proofs.Common.{Result, Ok, Err, IfOk, IfErr, add-one}
use Rattle.std.specs.List.Sorted.{IsSearchInRange, IsBinarySearchResult, IsNonDecreasingBy}
use Rattle.std.specs.Ordering.{is_lt, ordering_index, ordering_reverse}
use Rattle.std.specs.FinMap.{put, entries-insert, same_entries_map, slice_cmp-IsAntisymmetric, nat_cmp-IsAntisymmetric}
use Rattle.std.specs.FinMap as map
use Rattle.std.specs.FinMap.Entries.{below_all, by_order, is_sorted-put}
use Rattle.std.proofs.lemmas.List.Sorted.{searchable_from_sorted}
use Rattle.sv_mapping.proofs.TestLemmas.{true_test, test_true}

-- a text and a number
abbrev Entry : Type 0
Entry = Text × ℕ

less_test : (r : Ordering) → is_lt r ≡ true → r ≡ Less
less_test Less e = refl
less_test Equal e = cc
less_test Greater e = cc

turned : (x y : Text) (r : Ordering) → text_cmp x y ≡ r → text_cmp y x ≡ ordering_reverse r
turned x y r e = nat_list_cmp_total.antisymm y x ∙ ap ordering_reverse e

pub same_text : (x y : Text) → text_cmp x y ≡ Equal → x ≡ y
same_text = slice_cmp-IsAntisymmetric nat_cmp-IsAntisymmetric

-- a text below all entries is less than each
below_each : (x : Text) (es : List Entry) → below_all text_cmp x es ≡ true → (k : ℕ) (d : Entry) → k < length es → text_cmp x (get_or es k d).0 ≡ Less
below_each x [] h k d l = absurd (omega arith)
below_each x (e ∷ es) h zero d l = less_test _ (and_parts _ _ h).0
below_each x (e ∷ es) h (suc k) d l = below_each x es (and_parts _ _ h).1 k d (omega arith)

rises : (es : List Entry) → is_sorted text_cmp es ≡ true → (k : ℕ) (d : Entry) → suc k < length es → text_cmp (get_or es k d).0 (get_or es (suc k) d).0 ≡ Less
rises [] h k d l = absurd (omega arith)
rises (e ∷ es) h zero d l = below_each e.0 es (and_parts _ _ h).0 0 d (omega arith)
rises (e ∷ es) h (suc k) d l = rises es (and_parts _ _ h).1 k d (omega arith)

-- the comparisons with a text rise along the entries, as a binary search asks
searchable : (es : List Entry) → is_sorted text_cmp es ≡ true → (x : Text) → IsNonDecreasingBy (λ (e : Entry). ordering_index (text_cmp e.0 x)) es
searchable es h x = searchable_from_sorted nat_list_cmp_total (λ (e : Entry). e.0) es x (λ k d low l.
    ap (λ j. is_lt (text_cmp (get_or es j d).0 (get_or es k d).0)) (add-one k)
    ∙ ap is_lt (turned (get_or es k d).0 (get_or es (suc k) d).0 Less (rises es h k d (omega arith))))

-- a binary search ends at the text's place, or at the gap for it
pub searched : (es : List Entry) → is_sorted text_cmp es ≡ true → (x : Text) (r : Result ℕ ℕ) → IsSearchInRange r (length es) → IsBinarySearchResult (λ (e : Entry). text_cmp e.0 x) es r → IfOk r (IsPlaceOf es x) × IfErr r (IsGapFor es x)
searched es h x (Ok place) within equal = (record { within = within; same = λ d. same_text _ x (equal d) }, tt)
searched es h x (Err place) within parted =
    let point = parted (searchable es h x) in
    (tt, record { within = within; less = λ k d l. point.0 k d (omega arith) l; greater = λ k d low l. point.1 k d low l })

module _ (x : Text) where
  -- the entry at the text's place is the one that is found
  pub find-at : (es : List Entry) → is_sorted text_cmp es ≡ true → (place : ℕ) (d : Entry) → IsPlaceOf es x place → find text_cmp x es ≡ Some (get_or es place d).1
  find-at [] h place d at = absurd (omega (arith, at.within))
  find-at (e ∷ es) h zero d at = ap (λ r. cond (is_eq r) (Some e.1) (find text_cmp x es)) (ap (text_cmp x) (at.same e) ∙ tied_itself nat_list_cmp_total x)
  find-at (e ∷ es) h (suc k) d at =
      let later : IsPlaceOf es x k = record { within = omega (arith, at.within); same = at.same } in
      let above : text_cmp x e.0 ≡ Greater = ap (λ y. text_cmp y e.0) (sym (at.same d)) ∙ turned e.0 (get_or es k d).0 Less (below_each e.0 es (and_parts _ _ h).0 k d (omega (arith, at.within))) in
      ap (λ r. cond (is_eq r) (Some e.1) (find text_cmp x es)) above ∙ find-at es (and_parts _ _ h).1 k d later

  gap_behind : (e : Entry) (es : List Entry) (k : ℕ) → IsGapFor (e ∷ es) x (suc k) → IsGapFor es x k
  gap_behind e es k gap = record {
    within = omega (arith, gap.within);
    less = λ j d l. gap.less (suc j) d (omega arith);
    greater = λ j d low l. gap.greater (suc j) d (omega arith) (omega arith);
  }

  gap_at_front : (e : Entry) (es : List Entry) → IsGapFor (e ∷ es) x 0 → IsGapFor es x 0
  gap_at_front e es gap = record {
    within = omega arith;
    less = λ j d l. absurd (omega arith);
    greater = λ j d low l. gap.greater (suc j) d (omega arith) (omega arith);
  }

  -- a text that has a gap is not found
  pub find-gap : (es : List Entry) (place : ℕ) → IsGapFor es x place → find text_cmp x es ≡ None
  find-gap [] place gap = refl
  find-gap (e ∷ es) zero gap =
      ap (λ r. cond (is_eq r) (Some e.1) (find text_cmp x es)) (turned e.0 x Greater (gap.greater 0 e (omega arith) (omega arith))) ∙ find-gap es 0 (gap_at_front e es gap)
  find-gap (e ∷ es) (suc k) gap =
      ap (λ r. cond (is_eq r) (Some e.1) (find text_cmp x es)) (turned e.0 x Less (gap.less 0 e (omega arith))) ∙ find-gap es k (gap_behind e es k gap)

  -- an entry that goes in at the gap is in its place
  pub insert-gap : (n : ℕ) (es : List Entry) (place : ℕ) → IsGapFor es x place → insert es place (x, n) ≡ put text_cmp x n es
  insert-gap n [] zero gap = refl
  insert-gap n [] (suc k) gap = absurd (omega (arith, gap.within))
  insert-gap n (e ∷ es) zero gap =
      ap (λ r. by_order r ((x, n) ∷ e ∷ es) ((e.0, n) ∷ es) (e ∷ put text_cmp x n es)) (sym (turned e.0 x Greater (gap.greater 0 e (omega arith) (omega arith))))
  insert-gap n (e ∷ es) (suc k) gap =
      ap (λ t. e ∷ t) (insert-gap n es k (gap_behind e es k gap))
      ∙ ap (λ r. by_order r ((x, n) ∷ e ∷ es) ((e.0, n) ∷ es) (e ∷ put text_cmp x n es)) (sym (turned e.0 x Less (gap.less 0 e (omega arith))))

-- the entries of the table that sorted entries make
pub from_sorted-put : (es : List Entry) → is_sorted text_cmp es ≡ true → (x : Text) (n : ℕ) → from_sorted {R = text_cmp} (put text_cmp x n es) ≡ map.insert (from_sorted es) x n
from_sorted-put es h x n =
    let sorted = test_true _ h in
    same_entries_map _ _ (entries-from_sorted text_cmp _ (is_sorted-put text_cmp nat_list_cmp_total x n es sorted) ∙ ap (put text_cmp x n) (sym (entries-from_sorted text_cmp es sorted)) ∙ sym (entries-insert nat_list_cmp_total (from_sorted es) x n))

pub sorted_put : (es : List Entry) → is_sorted text_cmp es ≡ true → (x : Text) (n : ℕ) → is_sorted text_cmp (put text_cmp x n es) ≡ true
sorted_put es h x n = true_test _ (is_sorted-put text_cmp nat_list_cmp_total x n es (test_true _ h))
