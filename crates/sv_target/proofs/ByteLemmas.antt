-- Lists of bytes.
use Rattle.sv_target.proofs.Prelude.{ℕ, zero, suc, ◌<◌, ◌^◌, List, [], ◌∷◌, ◌++◌, take, drop, arith, All, bytes_high_first, All-cons, All-nil, All-tail}
use Rattle.sv_target.proofs.Prelude.{IsBytes}
use Rattle.std.specs.Int.{byte_at}

pub IsBytes-cons : (b : ℕ) (bytes : List ℕ) → b < 256 → IsBytes bytes → IsBytes (b ∷ bytes)
IsBytes-cons b bytes first others zero = first
IsBytes-cons b bytes first others (suc i) = others i

pub IsBytes-from_All : (bytes : List ℕ) → All (λ b. b < 2 ^ 8) bytes → IsBytes bytes
IsBytes-from_All [] fit = λ i. omega arith
IsBytes-from_All (b ∷ bytes) fit = IsBytes-cons b bytes (fit 0 0 (omega arith)) (IsBytes-from_All bytes (All-tail (λ b. b < 2 ^ 8) b bytes fit))

pub All-from_bytes : (bytes : List ℕ) → IsBytes bytes → All (λ b. b < 2 ^ 8) bytes
All-from_bytes [] fit = All-nil (λ b. b < 2 ^ 8)
All-from_bytes (b ∷ bytes) fit = All-cons (λ b. b < 2 ^ 8) b bytes (fit 0) (All-from_bytes bytes (λ i. fit (suc i)))

pub IsBytes-take : (n : ℕ) (bytes : List ℕ) → IsBytes bytes → IsBytes (take n bytes)
IsBytes-take zero bytes fit = λ i. omega arith
IsBytes-take (suc n) [] fit = fit
IsBytes-take (suc n) (b ∷ bytes) fit = IsBytes-cons b (take n bytes) (fit 0) (IsBytes-take n bytes (λ i. fit (suc i)))

pub IsBytes-drop : (n : ℕ) (bytes : List ℕ) → IsBytes bytes → IsBytes (drop n bytes)
IsBytes-drop zero bytes fit = fit
IsBytes-drop (suc n) [] fit = fit
IsBytes-drop (suc n) (b ∷ bytes) fit = IsBytes-drop n bytes (λ i. fit (suc i))

byte_at-lt : (i n : ℕ) → byte_at i n < 256
byte_at-lt zero n = omega arith
byte_at-lt (suc i) n = omega arith

-- the bytes of a number before other bytes
pub IsBytes-bytes_high_first : (k n : ℕ) (bytes : List ℕ) → IsBytes bytes → IsBytes (bytes_high_first k n ++ bytes)
IsBytes-bytes_high_first zero n bytes fit = fit
IsBytes-bytes_high_first (suc k) n bytes fit = IsBytes-cons (byte_at k n) (bytes_high_first k n ++ bytes) (byte_at-lt k n) (IsBytes-bytes_high_first k n bytes fit)
