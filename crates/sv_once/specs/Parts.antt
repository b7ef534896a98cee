-- Texts after their lengths, one after the other. Bytes that end too early are read as far as they go, and a length that no byte
-- can say as the greatest that one can.
use Rattle.std.specs.Prelude.{ℕ, ◌+◌, ◌*◌, ◌/◌, ◌%◌, List, [], ◌∷◌, ◌++◌, take, drop, length, min, slice_index}

-- a length of one byte, and so many bytes
abbrev pub short_part : List ℕ → List ℕ
short_part text = length text ∷ text

-- a length of two bytes, high byte first
abbrev pub long_number : ℕ → List ℕ
long_number n = n / 256 ∷ n % 256 ∷ []

-- that, and so many bytes
abbrev pub long_part : List ℕ → List ℕ
long_part text = long_number (length text) ++ text

-- the number of a byte
abbrev pub byte_at : ℕ → List ℕ → ℕ
byte_at at bytes = min 255 (slice_index bytes at)

-- the number of the first two bytes
abbrev pub long_at : List ℕ → ℕ
long_at bytes = 256 * byte_at 0 bytes + byte_at 1 bytes

-- the first part, and what follows it
unfoldable pub short_first : List ℕ → List ℕ
short_first bytes = take (byte_at 0 bytes) (drop 1 bytes)

unfoldable pub short_rest : List ℕ → List ℕ
short_rest bytes = drop (byte_at 0 bytes) (drop 1 bytes)

unfoldable pub long_first : List ℕ → List ℕ
long_first bytes = take (long_at bytes) (drop 2 bytes)

unfoldable pub long_rest : List ℕ → List ℕ
long_rest bytes = drop (long_at bytes) (drop 2 bytes)
