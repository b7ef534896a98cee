-- Entries whose texts are short, and texts that are too long to be among them.
use Rattle.sv_mapping.proofs.Prelude.{◌≡◌, ℕ, zero, suc, ◌<◌, Bool, true, false, List, [], ◌∷◌, length, None, refl, ◌∙◌, subst, arith, insert, list_all}
use Rattle.sv_mapping.proofs.Prelude.{bytes_eq, is_eq, find, get, get-from_sorted, from_sorted, is_sorted, false_from_ne_true, and_parts, nat_tests}
use Rattle.sv_mapping.proofs.Prelude.{bytes_eq-Decides, Text, is_pattern, text_cmp}
use Rattle.std.proofs.Common.{nat_le}
use Rattle.std.proofs.lemmas.Map.Text.{is_eq-slice_cmp}
use Rattle.sv_mapping.specs.Search.{are_short}
use Rattle.sv_mapping.proofs.TestLemmas.{test_true}

all_insert : {A : Type 0} (p : A → Bool) (xs : List A) (i : ℕ) (x : A) → list_all p xs ≡ true → p x ≡ true → list_all p (insert xs i x) ≡ true
all_insert p [] zero x a h = rw h
all_insert p [] (suc i) x a h = rw h
all_insert p (y ∷ ys) zero x a h = rw (h, a)
all_insert p (y ∷ ys) (suc i) x a h =
    let (here, more) = and_parts (p y) (list_all p ys) a in
    rw (here, all_insert p ys i x more h)

-- a pattern is short
pub insert_short : (es : List (Text × ℕ)) (place : ℕ) (x : Text) (n : ℕ) → are_short es ≡ true → is_pattern x ≡ true → are_short (insert es place (x, n)) ≡ true
unfolding is_pattern
insert_short es place x n short pattern = all_insert (λ (e : Text × ℕ). nat_le (length e.0) 256) es place (x, n) short (and_parts _ _ pattern).0

other_text : (x y : Text) → 256 < length x → nat_le (length y) 256 ≡ true → is_eq (text_cmp x y) ≡ false
other_text x y long short = is_eq-slice_cmp x y ∙ false_from_ne_true (bytes_eq x y) (λ same.
    let equal : x ≡ y = (bytes_eq-Decides x y).0 same in
    let within : 256 < length y = subst (λ (t : Text). 256 < length t) equal long in
    absurd (grind (arith, nat_tests)))

find_long : (x : Text) (es : List (Text × ℕ)) → 256 < length x → are_short es ≡ true → find text_cmp x es ≡ None
find_long x [] long short = refl
find_long x (e ∷ es) long short =
    let (here, more) = and_parts (nat_le (length e.0) 256) (are_short es) short in
    rw (other_text x e.0 long here, find_long x es long more)

-- a table has no text that is longer than a pattern
pub get_long : (es : List (Text × ℕ)) → is_sorted text_cmp es ≡ true → are_short es ≡ true → (x : Text) → 256 < length x → get (from_sorted {R = text_cmp} es) x ≡ None
get_long es sorted short x long = get-from_sorted text_cmp es x (test_true _ sorted) ∙ find_long x es long short
