-- Numbers that are written in decimal digits.
use Rattle.std.specs.Prelude.{ℕ, ◌^◌, ◌&&◌, ◌==◌, not, Bool, List, length, Option, Some, None, nat_lt, slice_index, if◌then◌else◌}
use Rattle.std.specs.Char.{digit_value}
use Rattle.std.specs.List.{list_all}
use Rattle.std.specs.Str.Parse.{digits_value}

-- a decimal digit
abbrev pub is_digit : ℕ → Bool
is_digit c = nat_lt (digit_value c) 10

-- one or more decimal digits, and nothing else
abbrev pub is_numeral : List ℕ → Bool
is_numeral word = nat_lt 0 (length word) && list_all is_digit word

-- a sign stands first
abbrev pub starts_with_plus : List ℕ → Bool
starts_with_plus word = slice_index word 0 == 43

-- the number of decimal digits, where it is below 2 ^ k
unfoldable pub number_in : ℕ → List ℕ → Option ℕ
number_in k word =
    if not (starts_with_plus word) && (is_numeral word && nat_lt (digits_value 10 word) (2 ^ k)) then Some (digits_value 10 word) else None
