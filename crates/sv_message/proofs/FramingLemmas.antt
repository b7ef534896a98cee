-- Fields that say nothing of the body frame none.
use Rattle.sv_message.proofs.Prelude.{refl, ◌≡◌, ℕ, List, [], ◌∷◌, Bool, false, ◌==◌, Ok, count_by, fold, if◌then◌else◌, list_any, Field, Declared, is_length}
use Rattle.sv_message.proofs.Prelude.{declared_length, number, is_coding}
use Rattle.std.specs.Prelude.{◌||◌}
use Rattle.std.proofs.lemmas.Bool.{and_left, and_right, or_parts}
use Rattle.sv_message.specs.Length.{is_bad_length}
use Rattle.sv_message.specs.Coding.{is_other_coding}
use Rattle.sv_message.specs.Framing.{framing_by, is_expect, is_of_body}

-- a narrower test passes none either
none_narrower : (narrow wide : Field → Bool) → ((f : Field) → wide f ≡ false → narrow f ≡ false)
    → (fields : List Field) → list_any wide fields ≡ false → list_any narrow fields ≡ false
none_narrower narrow wide sub [] none = refl
none_narrower narrow wide sub (f ∷ fields) none =
    let parts = or_parts (wide f) (list_any wide fields) none in
    rw (sub f parts.0) (none_narrower narrow wide sub fields parts.1)

-- and none is counted
none_counted : (test : Field → Bool) (fields : List Field) → list_any test fields ≡ false → count_by test fields ≡ 0
none_counted test [] none = refl
none_counted test (f ∷ fields) none =
    let parts = or_parts (test f) (list_any test fields) none in
    rw parts.0 (none_counted test fields parts.1)

none_declared : (n : ℕ) (fields : List Field) → list_any is_length fields ≡ false
    → fold (λ m f. if is_length f then number f.value.bytes else m) n fields ≡ n
none_declared n [] none = refl
none_declared n (f ∷ fields) none =
    let parts = or_parts (is_length f) (list_any is_length fields) none in
    rw parts.0 (none_declared n fields parts.1)

pub framing_of_none : (minor : ℕ) (fields : List Field) → list_any is_of_body fields ≡ false
    → framing_by minor fields ≡ Ok (Declared 0)
framing_of_none minor fields none =
    let split : (f : Field) → is_of_body f ≡ false → (is_length f ≡ false) × (is_coding f ≡ false) × (is_expect f ≡ false) =
    λ f is. let first = or_parts (is_length f || is_coding f) (is_expect f) is in
    let both = or_parts (is_length f) (is_coding f) first.0 in (both.0, both.1, first.1) in
    let lengths = none_narrower is_length is_of_body (λ f is. (split f is).0) fields none in
    let bad = none_narrower is_bad_length is_length (λ f is. and_left _ _ is) fields lengths in
    let codings = none_narrower is_coding is_of_body (λ f is. (split f is).1) fields none in
    let others = none_narrower is_other_coding is_coding (λ f is. and_left _ _ is) fields codings in
    let expects = none_narrower is_expect is_of_body (λ f is. (split f is).2) fields none in
    let no_lengths = none_counted is_length fields lengths in
    let no_codings = none_counted is_coding fields codings in
    let declared : declared_length fields ≡ 0 = none_declared 0 fields lengths in
    rw (no_lengths, bad, codings, no_codings, others, expects, and_right (minor == 1) false refl, declared) refl
