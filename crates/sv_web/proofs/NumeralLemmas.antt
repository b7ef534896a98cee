-- Texts that are numerals.
use Rattle.std.proofs.Common.{◌≡◌, ℕ, ◌^◌, ◌<◌, List, [], ◌∷◌, length, drop, refl, arith, Some, None, Result, Ok, Err, ap, ◌∙◌, subst}
use Rattle.std.proofs.lemmas.Bool.{and_from}
use Rattle.std.specs.Prelude.{Bool, true, false, not, ◌&&◌, nat_lt, cond}
use Rattle.std.specs.Char.{digit_value}
use Rattle.std.specs.List.{list_all}
use Rattle.std.specs.Result.{result_ok, OkIff}
use Rattle.std.specs.Str.{IsUtf8}
use Rattle.std.specs.Str.Parse.{digits_value, AllDigits, IsNumeral, without_leading_plus, ParsesUnsigned}
use Rattle.std.proofs.lemmas.Bool.Decides.{nat_tests}
use Rattle.std.proofs.lemmas.Fmt.{IsAscii-from_digits}
use Rattle.std.proofs.lemmas.Str.{IsUtf8-from_ascii}
use Rattle.sv_web.specs.Numeral.{is_digit, is_numeral, starts_with_plus, number_in}

first_true : (a b : Bool) → a && b ≡ true → a ≡ true
first_true true b x = refl
first_true false b x = x

second_true : (a b : Bool) → a && b ≡ true → b ≡ true
second_true true b x = x
second_true false b x = absurd (cc)

below_true : (m n : ℕ) → m < n → nat_lt m n ≡ true
below_true m n h = grind (arith, nat_tests)

true_below : (m n : ℕ) → nat_lt m n ≡ true → m < n
true_below m n h = grind (arith, nat_tests)

digits_true : (bs : List ℕ) → AllDigits 10 bs → list_all is_digit bs ≡ true
digits_true [] h = refl
digits_true (c ∷ cs) h = and_from (is_digit c) (list_all is_digit cs) (below_true (digit_value c) 10 h.0) (digits_true cs h.1)

true_digits : (bs : List ℕ) → list_all is_digit bs ≡ true → AllDigits 10 bs
true_digits [] h = tt
true_digits (c ∷ cs) h =
    (true_below (digit_value c) 10 (first_true (is_digit c) (list_all is_digit cs) h), true_digits cs (second_true (is_digit c) (list_all is_digit cs) h))

fits : List ℕ → ℕ → Bool
fits bs k = is_numeral bs && nat_lt (digits_value 10 bs) (2 ^ k)

fits_true : (bs : List ℕ) (k : ℕ) → IsNumeral 10 bs → digits_value 10 bs < 2 ^ k → fits bs k ≡ true
unfolding fits
fits_true bs k n l =
    and_from (is_numeral bs) (nat_lt (digits_value 10 bs) (2 ^ k))
    (and_from (nat_lt 0 (length bs)) (list_all is_digit bs) (below_true 0 (length bs) n.0) (digits_true bs n.1))
    (below_true (digits_value 10 bs) (2 ^ k) l)

true_fits : (bs : List ℕ) (k : ℕ) → fits bs k ≡ true → IsNumeral 10 bs × (digits_value 10 bs < 2 ^ k)
unfolding fits
true_fits bs k h =
    let numeral = first_true (is_numeral bs) (nat_lt (digits_value 10 bs) (2 ^ k)) h in (
      (
        true_below 0 (length bs) (first_true (nat_lt 0 (length bs)) (list_all is_digit bs) numeral),
        true_digits bs (second_true (nat_lt 0 (length bs)) (list_all is_digit bs) numeral),
      ),
      true_below (digits_value 10 bs) (2 ^ k) (second_true (is_numeral bs) (nat_lt (digits_value 10 bs) (2 ^ k)) h),
    )

chosen : (b : Bool) (x : ℕ) → b ≡ true → Some x ≡ cond b (Some x) None
chosen true x h = refl
chosen false x h = absurd (cc)

not_chosen : (b : Bool) (x : ℕ) → (b ≡ true → ⊥) → None ≡ cond b (Some x) None
not_chosen true x h = absurd (h refl)
not_chosen false x h = refl

parsed : {E : Type 0} (k : ℕ) (bs : List ℕ) (r : Result ℕ E) → OkIff r (IsNumeral 10 bs × (digits_value 10 bs < 2 ^ k)) (digits_value 10 bs)
    → result_ok r ≡ cond (fits bs k) (Some (digits_value 10 bs)) None
parsed k bs (Ok x) h = ap Some h.1 ∙ chosen (fits bs k) (digits_value 10 bs) (fits_true bs k h.0.0 h.0.1)
parsed k bs (Err e) h = not_chosen (fits bs k) (digits_value 10 bs) (λ f. h (true_fits bs k f))

unsigned : (bs : List ℕ) → starts_with_plus bs ≡ false → without_leading_plus bs ≡ bs
unsigned bs none = ap (λ (b : Bool). drop (cond b 1 0) bs) none

refused_by : (b x : Bool) (v : ℕ) → true ≡ b → None ≡ cond (not b && x) (Some v) None
refused_by true x v h = refl
refused_by false x v h = absurd (cc)

let_through : (b x : Bool) (v : ℕ) → b ≡ false → cond x (Some v) None ≡ cond (not b && x) (Some v) None
let_through true x v h = absurd (cc)
let_through false x v h = refl

-- a word with a sign is no number here
pub signed_word : (k : ℕ) (bs : List ℕ) → true ≡ starts_with_plus bs → None ≡ number_in k bs
unfolding number_in
signed_word k bs plus = refused_by (starts_with_plus bs) (is_numeral bs && nat_lt (digits_value 10 bs) (2 ^ k)) (digits_value 10 bs) plus

-- without one it is what `parse` makes of it
pub parsed_word : {E : Type 0} (k : ℕ) (bs : List ℕ) (r : Result ℕ E) → starts_with_plus bs ≡ false → ParsesUnsigned k 10 bs r → result_ok r ≡ number_in k bs
unfolding number_in fits
parsed_word {E} k bs r none h =
    let P : List ℕ → Type 0 = λ w. OkIff r (IsNumeral 10 w × (digits_value 10 w < 2 ^ k)) (digits_value 10 w) in
    parsed k bs r (subst P (unsigned bs none) h)
    ∙ let_through (starts_with_plus bs) (is_numeral bs && nat_lt (digits_value 10 bs) (2 ^ k)) (digits_value 10 bs) none

-- bytes that are no text are no number
pub no_text : (k : ℕ) (bs : List ℕ) → (IsUtf8 bs → ⊥) → None ≡ number_in k bs
unfolding number_in fits
no_text k bs none =
    not_chosen (not (starts_with_plus bs) && (is_numeral bs && nat_lt (digits_value 10 bs) (2 ^ k))) (digits_value 10 bs)
    (λ passes. none (IsUtf8-from_ascii bs (IsAscii-from_digits bs
    (true_fits bs k (second_true (not (starts_with_plus bs)) (is_numeral bs && nat_lt (digits_value 10 bs) (2 ^ k)) passes)).0.1)))
