-- What digits spell is what is spelled in them.
use Rattle.sv_target.proofs.Prelude.{◌≡◌, ℕ, zero, suc, ◌+◌, ◌*◌, ◌<◌, ◌≤◌, ◌==◌, Bool, true, cond, Option, Some, None, List, [], ◌∷◌, ◌++◌, length, take, drop}
use Rattle.sv_target.proofs.Prelude.{slice_index, refl, sym, ap, ◌∙◌, inl, inr, arith, option_and_then, and_parts, eqb-true, nat_tests, append_assoc}
use Rattle.sv_target.proofs.Prelude.{append-nil, take_all, option_and_then_some, IsBytes, encode_lower, lower_digits, bytes_of}
use Rattle.std.proofs.Common.{◌-◌, ◌/◌, ◌%◌, ◌&&◌, slice_set, ltb}
use Rattle.std.proofs.lemmas.Bool.{cases_lt}
use Rattle.std.proofs.lemmas.List.{take_more_set}
use Rattle.std.proofs.lemmas.Option.{same_Some}
use Rattle.hex.specs.Hex.{encode_with}
use Rattle.sv_target.proofs.ByteLemmas.{IsBytes-cons}
use Rattle.std.specs.Prelude.{unwrap_or}
use Rattle.sv_target.specs.Digits.{byte_of, digit_value}
use Rattle.sv_target.specs.declared.digits.TheConstants.{VALUES}

-- ---- the digits of values

-- a test of the numbers below n, which computes
unfoldable pub all_below : ℕ → (ℕ → Bool) → Bool
all_below zero test = true
all_below (suc n) test = test n && all_below n test

pub below_all : (n : ℕ) (test : ℕ → Bool) (k : ℕ) → all_below n test ≡ true → k < n → test k ≡ true
unfolding all_below
below_all zero test k all below = absurd (omega arith)
below_all (suc n) test k all below =
    let parts = and_parts (test n) (all_below n test) all in
    elim (cases_lt k n) [
      | inl less ↦ below_all n test k parts.1 less
      | inr top ↦ let same : k ≡ n = omega arith in rw same parts.0
    ]

-- the digit of a value
lower_digits_at : (v : ℕ) → v < 16 → slice_index lower_digits v ≡ cond (ltb v 10) (v + 48) (v + 87)
unfolding all_below
lower_digits_at v below = eqb-true _ _ (below_all 16 (λ v. slice_index lower_digits v == cond (ltb v 10) (v + 48) (v + 87)) v refl below)

digit_value-of_digit : (v : ℕ) → v < 16 → digit_value (cond (ltb v 10) (v + 48) (v + 87)) ≡ Some v
digit_value-of_digit v below = grind (arith, nat_tests)

-- the value of the digit of a value
digit_value-lower_digits : (v : ℕ) → v < 16 → digit_value (slice_index lower_digits v) ≡ Some v
digit_value-lower_digits v below = rw (lower_digits_at v below) (digit_value-of_digit v below)

digit_of_value : (c v : ℕ) → digit_value c ≡ Some v → (v < 16) × (cond (ltb v 10) (v + 48) (v + 87) ≡ c)
digit_of_value c v value = (grind arith, grind (arith, nat_tests))

-- a digit is that of its value, which is below 16
lower_digits-digit_value : (c v : ℕ) → digit_value c ≡ Some v → (v < 16) × (slice_index lower_digits v ≡ c)
lower_digits-digit_value c v value =
    let is = digit_of_value c v value in
    (is.0, lower_digits_at v is.0 ∙ is.1)

-- ---- the table of values

-- what the table has of a byte
pub value_at : (b : ℕ) → b < 256 → unwrap_or (digit_value b) 16 ≡ slice_index VALUES b
unfolding all_below
value_at b below = eqb-true _ _ (below_all 256 (λ b. unwrap_or (digit_value b) 16 == slice_index VALUES b) b refl below)

digit_of : (v : ℕ) (o : Option ℕ) → v ≡ unwrap_or o 16 → v ≤ 15 → o ≡ Some v
digit_of v None is small = absurd (omega (arith, is))
digit_of v (Some w) is small = ap Some (sym is)

no_digit_of : (c v : ℕ) (o : Option ℕ) → digit_value c ≡ o → v ≡ unwrap_or o 16 → 15 < v → o ≡ None
no_digit_of c v None value is large = refl
no_digit_of c v (Some w) value is large =
    let below = (digit_of_value c w value).0 in
    absurd (omega (arith, is, below))

pub no_byte_by_first : (high low v : ℕ) → v ≡ unwrap_or (digit_value high) 16 → 15 < v → None ≡ byte_of high low
no_byte_by_first high low v is large = rw (no_digit_of high v (digit_value high) refl is large) refl

pub no_byte_by_second : (high low v w : ℕ) → v ≡ unwrap_or (digit_value high) 16 → v ≤ 15 → w ≡ unwrap_or (digit_value low) 16 → 15 < w → None ≡ byte_of high low
no_byte_by_second high low v w first small second large =
    rw (digit_of v (digit_value high) first small, no_digit_of low w (digit_value low) refl second large) refl

pub byte_by_values : (high low v w : ℕ) → v ≡ unwrap_or (digit_value high) 16 → v ≤ 15 → w ≡ unwrap_or (digit_value low) 16 → w ≤ 15 → Some (v * 16 + w) ≡ byte_of high low
byte_by_values high low v w first small second smaller =
    rw (digit_of v (digit_value high) first small, digit_of w (digit_value low) second smaller) refl

-- ---- what is spelled is read back

byte_of-digits : (b : ℕ) → b < 256 → byte_of (slice_index lower_digits (b / 16)) (slice_index lower_digits (b % 16)) ≡ Some b
byte_of-digits b fits =
    let high = digit_value-lower_digits (b / 16) (omega arith) in
    let low = digit_value-lower_digits (b % 16) (omega arith) in
    let same : b / 16 * 16 + b % 16 ≡ b = omega arith in
    rw (high, low) (ap Some same)

pub bytes_of-encode_lower : (bytes : List ℕ) → IsBytes bytes → bytes_of (encode_lower bytes) ≡ Some bytes
unfolding bytes_of encode_with
bytes_of-encode_lower [] fit = refl
bytes_of-encode_lower (b ∷ bytes) fit = rw (byte_of-digits b (fit 0), bytes_of-encode_lower bytes (λ i. fit (suc i))) refl

-- ---- what is read is what was spelled

-- the bytes that a text spells
pub record Spells (text bytes : List ℕ) : Type 0 where
  pub text_is : encode_lower bytes ≡ text
  pub len : length text ≡ 2 * length bytes
  pub fit : IsBytes bytes

-- the digits of the byte of two
record AreDigits (high low byte : ℕ) : Type 0 where
  fits : byte < 256
  high_is : slice_index lower_digits (byte / 16) ≡ high
  low_is : slice_index lower_digits (byte % 16) ≡ low

AreDigits-values : (high low h l : ℕ) → digit_value high ≡ Some h → digit_value low ≡ Some l → AreDigits high low (h * 16 + l)
AreDigits-values high low h l is_h is_l =
    let of_high = lower_digits-digit_value high h is_h in
    let of_low = lower_digits-digit_value low l is_l in
    let first : (h * 16 + l) / 16 ≡ h = omega (arith, of_high.0, of_low.0) in
    let second : (h * 16 + l) % 16 ≡ l = omega (arith, of_high.0, of_low.0) in
    record { fits = omega (arith, of_high.0, of_low.0); high_is = rw first of_high.1; low_is = rw second of_low.1 }

AreDigits-byte_of : (high low byte : ℕ) → byte_of high low ≡ Some byte → AreDigits high low byte
AreDigits-byte_of high low byte is =
    option_and_then_some (λ h. option_and_then (λ l. Some (h * 16 + l)) (digit_value low)) (digit_value high) byte is
    (λ h is_h inner. option_and_then_some (λ l. Some (h * 16 + l)) (digit_value low) byte inner
    (λ l is_l whole. rw (← same_Some (h * 16 + l) byte whole) (AreDigits-values high low h l is_h is_l)))

Spells-pair : (high low byte : ℕ) (rest others : List ℕ) → AreDigits high low byte → Spells rest others → Spells (high ∷ low ∷ rest) (byte ∷ others)
unfolding encode_with
Spells-pair high low byte rest others digits spells = record {
  text_is = rw (digits.high_is, digits.low_is, spells.text_is) refl;
  len = omega (arith, spells.len);
  fit = IsBytes-cons byte others digits.fits spells.fit;
}

pub Spells-bytes_of : (text bytes : List ℕ) → bytes_of text ≡ Some bytes → Spells text bytes
unfolding bytes_of encode_with
Spells-bytes_of [] bytes is = rw (← same_Some [] bytes is) (record { text_is = refl; len = refl; fit = λ i. omega arith })
Spells-bytes_of (digit ∷ []) bytes is = cc is
Spells-bytes_of (high ∷ low ∷ rest) bytes is =
    option_and_then_some (λ byte. option_and_then (λ others. Some (byte ∷ others)) (bytes_of rest)) (byte_of high low) bytes is
    (λ byte is_byte inner. option_and_then_some (λ others. Some (byte ∷ others)) (bytes_of rest) bytes inner
    (λ others are_others whole.
    let pair = AreDigits-byte_of high low byte is_byte in
    rw (← same_Some (byte ∷ others) bytes whole) (Spells-pair high low byte rest others pair (Spells-bytes_of rest others are_others))))

-- ---- the loop that reads

-- the bytes before those that the rest spells
abbrev pub prepend : List ℕ → Option (List ℕ) → Option (List ℕ)
prepend front rest = option_and_then (λ bytes. Some (front ++ bytes)) rest

prepend-nil : (rest : Option (List ℕ)) → rest ≡ prepend [] rest
prepend-nil None = refl
prepend-nil (Some bytes) = refl

-- nothing has been read yet
pub bytes_of-none_read : (text out : List ℕ) → bytes_of text ≡ prepend (take 0 out) (bytes_of text)
bytes_of-none_read text out = prepend-nil (bytes_of text)

prepend-byte : (front : List ℕ) (byte : ℕ) (rest : Option (List ℕ))
    → prepend front (option_and_then (λ bytes. Some (byte ∷ bytes)) rest) ≡ prepend (front ++ byte ∷ []) rest
prepend-byte front byte None = refl
prepend-byte front byte (Some bytes) = ap Some (sym (append_assoc front (byte ∷ []) bytes))

bytes_of-byte : (high low byte : ℕ) (rest : List ℕ) → byte_of high low ≡ Some byte
    → bytes_of (high ∷ low ∷ rest) ≡ option_and_then (λ bytes. Some (byte ∷ bytes)) (bytes_of rest)
unfolding bytes_of
bytes_of-byte high low byte rest is = rw is refl

bytes_of-no_byte : (high low : ℕ) (rest : List ℕ) → byte_of high low ≡ None → bytes_of (high ∷ low ∷ rest) ≡ None
unfolding bytes_of
bytes_of-no_byte high low rest is = rw is refl

-- what is left after two digits
abbrev rest_of : List ℕ → List ℕ
rest_of left = take (length left - 2) (drop 2 left)

rest_is : (high low : ℕ) (rest : List ℕ) → rest_of (high ∷ low ∷ rest) ≡ rest
rest_is high low rest = take_all (length (high ∷ low ∷ rest) - 2) rest (omega arith)

pub rest_less : (left : List ℕ) (i : ℕ) → 2 ≤ length left → length left + 2 * i ≡ 52 → length (rest_of left) + 2 * (i + 1) ≡ 52
rest_less [] i fits is = absurd (omega arith)
rest_less (digit ∷ []) i fits is = absurd (omega arith)
rest_less (high ∷ low ∷ rest) i fits is = rw (rest_is high low rest) (omega (arith, is))

-- a byte more has been read
pub bytes_of-read : (text out left : List ℕ) (i byte : ℕ) → 2 ≤ length left → i < length out
    → byte_of (slice_index left 0) (slice_index left 1) ≡ Some byte
    → bytes_of text ≡ prepend (take i out) (bytes_of left)
    → bytes_of text ≡ prepend (take (i + 1) (slice_set out i byte)) (bytes_of (rest_of left))
bytes_of-read text out [] i byte fits room is so_far = absurd (omega arith)
bytes_of-read text out (digit ∷ []) i byte fits room is so_far = absurd (omega arith)
bytes_of-read text out (high ∷ low ∷ rest) i byte fits room is so_far =
    so_far ∙ ap (prepend (take i out)) (bytes_of-byte high low byte rest is) ∙ prepend-byte (take i out) byte (bytes_of rest)
    ∙ ap (λ front. prepend front (bytes_of rest)) (sym (take_more_set out i byte room))
    ∙ ap (λ left. prepend (take (i + 1) (slice_set out i byte)) (bytes_of left)) (sym (rest_is high low rest))

-- two bytes are no digits
pub bytes_of-refused : (text out left : List ℕ) (i : ℕ) → 2 ≤ length left
    → byte_of (slice_index left 0) (slice_index left 1) ≡ None
    → bytes_of text ≡ prepend (take i out) (bytes_of left) → bytes_of text ≡ None
bytes_of-refused text out [] i fits is so_far = absurd (omega arith)
bytes_of-refused text out (digit ∷ []) i fits is so_far = absurd (omega arith)
bytes_of-refused text out (high ∷ low ∷ rest) i fits is so_far =
    so_far ∙ ap (prepend (take i out)) (bytes_of-no_byte high low rest is)

-- all has been read
pub bytes_of-all_read : (text out left : List ℕ) (i : ℕ) → length out ≤ i → length left ≤ 0
    → bytes_of text ≡ prepend (take i out) (bytes_of left) → bytes_of text ≡ Some out
unfolding bytes_of
bytes_of-all_read text out [] i last fits so_far = so_far ∙ ap Some (append-nil (take i out) ∙ take_all i out last)
bytes_of-all_read text out (digit ∷ left) i last fits so_far = absurd (omega arith)
