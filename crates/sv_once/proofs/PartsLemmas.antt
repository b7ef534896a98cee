-- A text after its length is read as it was written.
use Rattle.std.proofs.Common.{◌≡◌, refl, ap, ◌∙◌, ℕ, ◌+◌, ◌*◌, ◌<◌, List, ◌++◌, length, drop, Bool, true, false, ◌&&◌, arith}
use Rattle.std.specs.Prelude.{take, min, ◌/◌, ◌%◌}
use Rattle.std.proofs.Math.Seq.{drop-append_seam, take-append_seam}
use Rattle.std.proofs.lemmas.List.{length-take}
use Rattle.sv_once.specs.Parts.{byte_at, long_at, long_first, long_part, long_rest, short_first, short_part, short_rest}

pub both_true : (a b : Bool) → a && b ≡ true → (a ≡ true) × (b ≡ true)
both_true true b is = (refl, is)
both_true false b is = absurd (cc)

pub least : (n : ℕ) → n < 256 → min 255 n ≡ n
least n small = omega (arith, small)

pub number_read : (n : ℕ) → n < 65536 → 256 * min 255 (n / 256) + min 255 (n % 256) ≡ n
number_read n small = omega (arith, small)

pub short_first_read : (text rest : List ℕ) → length text < 256 → short_first (short_part text ++ rest) ≡ text
unfolding short_first
short_first_read text rest small = ap (λ (n : ℕ). take n (text ++ rest)) (least (length text) small) ∙ take-append_seam text rest

pub short_rest_read : (text rest : List ℕ) → length text < 256 → short_rest (short_part text ++ rest) ≡ rest
unfolding short_rest
short_rest_read text rest small = ap (λ (n : ℕ). drop n (text ++ rest)) (least (length text) small) ∙ drop-append_seam text rest

pub long_first_read : (text rest : List ℕ) → length text < 65536 → long_first (long_part text ++ rest) ≡ text
unfolding long_first
long_first_read text rest small = ap (λ (n : ℕ). take n (text ++ rest)) (number_read (length text) small) ∙ take-append_seam text rest

pub long_rest_read : (text rest : List ℕ) → length text < 65536 → long_rest (long_part text ++ rest) ≡ rest
unfolding long_rest
long_rest_read text rest small = ap (λ (n : ℕ). drop n (text ++ rest)) (number_read (length text) small) ∙ drop-append_seam text rest

-- what is read is never longer than its length can say
pub short_small : (bytes : List ℕ) → length (short_first bytes) < 256
unfolding short_first
short_small bytes = omega (arith, length-take (byte_at 0 bytes) (drop 1 bytes))

pub long_small : (bytes : List ℕ) → length (long_first bytes) < 65536
unfolding long_first
long_small bytes = omega (arith, length-take (long_at bytes) (drop 2 bytes))
