-- The table that sorted entries make.
use Rattle.sv_mapping.proofs.Prelude.{◌≡◌, ℕ, ◌<◌, ◌≤◌, true, false, leb, List, [], length, get_or, Some, None, refl, ap, ◌∙◌, arith, insert, get, len}
use Rattle.sv_mapping.proofs.Prelude.{is_sorted, from_sorted, entries-from_sorted, get-from_sorted, nat_tests, Text, text_cmp, IsPlaceOf, IsGapFor}
use Rattle.std.specs.FinMap.{empty, empty_of_len, len-entries}
use Rattle.std.specs.FinMap as map
use Rattle.sv_mapping.specs.Mappings.{refusal}
use Rattle.sv_mapping.specs.declared.fault.MappingFault.TheVariants.{DuplicatePattern, TooMany}
use Rattle.sv_mapping.proofs.TestLemmas.{test_true}
use Rattle.sv_mapping.proofs.EntryLemmas.{find-at, find-gap, insert-gap, sorted_put, from_sorted-put}

module _ (es : List (Text × ℕ)) (sorted : is_sorted text_cmp es ≡ true) where
  pub get-place : (x : Text) (place : ℕ) (d : Text × ℕ) → IsPlaceOf es x place → get (from_sorted {R = text_cmp} es) x ≡ Some (get_or es place d).1
  get-place x place d at = get-from_sorted text_cmp es x (test_true _ sorted) ∙ find-at x es sorted place d at

  pub get-gap : (x : Text) (place : ℕ) → IsGapFor es x place → get (from_sorted {R = text_cmp} es) x ≡ None
  get-gap x place gap = get-from_sorted text_cmp es x (test_true _ sorted) ∙ find-gap x es place gap

  pub len-sorted : len (from_sorted {R = text_cmp} es) ≡ length es
  len-sorted = len-entries (from_sorted {R = text_cmp} es) ∙ ap length (entries-from_sorted text_cmp es (test_true _ sorted))

  pub insert_sorted : (x : Text) (n place : ℕ) → IsGapFor es x place → is_sorted text_cmp (insert es place (x, n)) ≡ true
  insert_sorted x n place gap = ap (is_sorted text_cmp) (insert-gap x n es place gap) ∙ sorted_put es sorted x n

  pub from_sorted-insert : (x : Text) (n place : ℕ) → IsGapFor es x place → from_sorted {R = text_cmp} (insert es place (x, n)) ≡ map.insert (from_sorted es) x n
  from_sorted-insert x n place gap = ap (from_sorted {R = text_cmp}) (insert-gap x n es place gap) ∙ from_sorted-put es sorted x n

  pub refusal-place : (x : Text) (place : ℕ) (d : Text × ℕ) → IsPlaceOf es x place → refusal (from_sorted es) x ≡ Some DuplicatePattern
  unfolding refusal
  refusal-place x place d at = rw (get-place x place d at) refl

  pub refusal-full : (x : Text) (place : ℕ) → IsGapFor es x place → 256 ≤ length es → refusal (from_sorted es) x ≡ Some TooMany
  unfolding refusal
  refusal-full x place gap full =
      let test : leb 256 (length es) ≡ true = grind (arith, nat_tests) in
      rw (get-gap x place gap, len-sorted, test) refl

  pub refusal-none : (x : Text) (place : ℕ) → IsGapFor es x place → length es < 256 → refusal (from_sorted es) x ≡ None
  unfolding refusal
  refusal-none x place gap room =
      let test : leb 256 (length es) ≡ false = grind (arith, nat_tests) in
      rw (get-gap x place gap, len-sorted, test) refl

pub from_sorted-nil : (es : List (Text × ℕ)) → es ≡ [] → from_sorted {R = text_cmp} es ≡ empty
from_sorted-nil es e = ap (from_sorted {R = text_cmp}) e ∙ empty_of_len _ (len-sorted [] refl)
