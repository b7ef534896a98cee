-- The bytes of a session's cookie, in digits of `0-9a-f`, two each.
use Rattle.std.specs.Prelude.{ℕ, ◌+◌, ◌-◌, ◌*◌, ◌==◌, ◌&&◌, nat_le, List, [], ◌∷◌, length, Option, Some, None, option_and_then, if◌then◌else◌}

-- the value of a digit: `0` to `9` are 48 to 57, and `a` to `f` are 97 to 102
abbrev pub digit_value : ℕ → Option ℕ
digit_value c =
    if nat_le 48 c && nat_le c 57 then Some (c - 48)
    else if nat_le 97 c && nat_le c 102 then Some (c - 87)
    else None

-- the byte of two digits
abbrev pub byte_of : ℕ → ℕ → Option ℕ
byte_of high low = option_and_then (λ h. option_and_then (λ l. Some (h * 16 + l)) (digit_value low)) (digit_value high)

-- the bytes of a text of pairs of digits
unfoldable pub bytes_of : List ℕ → Option (List ℕ)
bytes_of [] = Some []
bytes_of (digit ∷ []) = None
bytes_of (high ∷ low ∷ rest) = option_and_then (λ byte. option_and_then (λ bytes. Some (byte ∷ bytes)) (bytes_of rest)) (byte_of high low)

-- the 26 bytes of a text that is 52 digits
unfoldable pub spelled_bytes : List ℕ → Option (List ℕ)
spelled_bytes text = if length text == 52 then bytes_of text else None
