-- A line that has a figure, in the text format of Prometheus, version 0.0.4.
use Rattle.std.specs.Prelude.{◌≡◌, ℕ, ◌==◌, ◌<◌, Bool, List, [], length}
use Rattle.std.specs.List.{after_first, before_first, position_or_len}

-- a brace that opens, one that closes, and a blank
abbrev pub is_open : ℕ → Bool
is_open c = c == 123

abbrev pub is_close : ℕ → Bool
is_close c = c == 125

abbrev pub is_blank : ℕ → Bool
is_blank c = c == 32

-- what stands after the first brace that opens
abbrev pub opened : List ℕ → List ℕ
opened line = after_first is_open line

-- what stands after the first one after it that closes
abbrev pub closed : List ℕ → List ℕ
closed line = after_first is_close (opened line)

-- a blank comes first
pub record StartsWithBlank (text : List ℕ) : Type 0 where
  pub spaced : position_or_len is_blank text < length text
  pub at_once : before_first is_blank text ≡ []

-- NAME{LABELS} VALUE: the name ends at the first brace that opens, the labels at the first one after it that closes, and a blank stands
-- right after that, before the value
pub record IsFigure (line name labels value : List ℕ) : Type 0 where
  pub opens : position_or_len is_open line < length line
  pub named : name ≡ before_first is_open line
  pub closes : position_or_len is_close (opened line) < length (opened line)
  pub labelled : labels ≡ before_first is_close (opened line)
  pub spaced : StartsWithBlank (closed line)
  pub valued : value ≡ after_first is_blank (closed line)
