-- Blanks: optional white space (RFC 9110, section 5.6.3).
use Rattle.std.specs.Prelude.{ℕ, Bool, ◌||◌, ◌==◌, List, [], ◌∷◌, reverse, if◌then◌else◌}

-- a space or a tab
abbrev pub is_blank : ℕ → Bool
is_blank b = b == 32 || b == 9

-- the text from its first byte that is no blank
abbrev pub trim_start : List ℕ → List ℕ
trim_start [] = []
trim_start (b ∷ text) = if is_blank b then trim_start text else b ∷ text

-- the text without the blanks at its end
abbrev pub trim_end : List ℕ → List ℕ
trim_end text = reverse (trim_start (reverse text))

-- the text without the blanks at both ends
unfoldable pub trim : List ℕ → List ℕ
trim text = trim_end (trim_start text)
