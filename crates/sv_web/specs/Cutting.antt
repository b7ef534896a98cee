-- Texts of bytes, and others within them.
use Rattle.std.specs.Prelude.{ℕ, ◌+◌, ◌&&◌, ◌||◌, ◌==◌, Bool, true, List, [], ◌∷◌, bytes_eq, drop, length, map, nat_le, take, Option, Some, None, option_map}
use Rattle.std.specs.Char.{to_ascii_lowercase}
use Rattle.memchr.specs.Find.{first_of, matches}

-- where a text first stands in another
abbrev pub place_of : List ℕ → List ℕ → Option ℕ
place_of text sought = first_of (matches text sought 0)

-- what stands before a place, and what after a text that stands there
abbrev pub around : List ℕ → List ℕ → ℕ → List ℕ × List ℕ
around text sought at = (take at text, drop (at + length sought) text)

-- what stands before the first place of a text, and what after it
unfoldable pub cut : List ℕ → List ℕ → Option (List ℕ × List ℕ)
cut text sought = option_map (around text sought) (place_of text sought)

-- in lower case
abbrev pub lowered : List ℕ → List ℕ
lowered text = map to_ascii_lowercase text

abbrev pub rest_at : List ℕ → List ℕ → ℕ → List ℕ
rest_at text sought at = drop (at + length sought) text

-- what stands after the first place of a text in lower case, whatever the case of letters
unfoldable pub behind : List ℕ → List ℕ → Option (List ℕ)
behind text sought = option_map (rest_at text sought) (place_of (lowered text) sought)

abbrev pub before_of : Option (List ℕ × List ℕ) → List ℕ → List ℕ
before_of None text = text
before_of (Some p) text = p.0

-- what stands before the first place of a text, or all
unfoldable pub before : List ℕ → List ℕ → List ℕ
before text sought = before_of (cut text sought) text

abbrev pub begins_with : List ℕ → List ℕ → Bool
begins_with text word = nat_le (length word) (length text) && bytes_eq (take (length word) text) word

-- a media type ends: by nothing, a semicolon or a blank (RFC 9110, section 8.3.1)
abbrev pub is_end : List ℕ → Bool
is_end [] = true
is_end (c ∷ cs) = (c == 59) || (c == 32) || (c == 9)

-- the content type is this one, which is in lower case, with any parameters
unfoldable pub is_type : List ℕ → List ℕ → Bool
is_type value media = begins_with (lowered value) media && is_end (drop (length media) value)
