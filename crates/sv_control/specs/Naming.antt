-- How an operator names a session.
use Rattle.std.specs.Prelude.{◌≡◌, ℕ, ◌==◌, ◌<◌, ◌^◌, Bool, List, ◌∷◌, ◌++◌, length, decimal}
use Rattle.std.specs.List.{after_first, before_first, position_or_len}
use Rattle.std.specs.Str.Parse.{IsNumeral, digits_value, without_leading_plus}
use Rattle.sv_model.specs.declared.key.Key.{Key}
use Rattle.sv_model.specs.Keys.{IsKey}

-- a key as it is shown: its home, a point and its serial
unfoldable pub key_text : Key → List ℕ
key_text k = decimal k.home ++ 46 ∷ decimal k.serial

-- decimal digits that write the number; a plus may stand before them
pub record Writes (digits : List ℕ) (n : ℕ) : Type 0 where
  pub numeral : IsNumeral 10 (without_leading_plus digits)
  pub value : digits_value 10 (without_leading_plus digits) ≡ n

abbrev pub is_point : ℕ → Bool
is_point c = c == 46

-- what stands before the first point writes the home of a key that a node could have made, and what stands after it the serial
pub record Names (text : List ℕ) (k : Key) : Type 0 where
  pub pointed : position_or_len is_point text < length text
  pub home : Writes (before_first is_point text) k.home
  pub serial : Writes (after_first is_point text) k.serial
  pub key : IsKey k
  pub small : k.serial < 2 ^ 64
