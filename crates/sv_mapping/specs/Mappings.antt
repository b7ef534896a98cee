-- Which pattern of a context is best for a path (Jakarta Servlet 6.0, section 12.1).
use Rattle.std.specs.Prelude.{◌≡◌, ℕ, false, ◌<◌, ◌⊎◌, List, [], ◌∷◌, length}
use Rattle.std.specs.Prelude.{nat_le, if◌then◌else◌, Option, Some, None, IsTrue, MatchOption, option_map, option_and_then}
use Rattle.std.specs.FinMap.{FinMap, get, contains_key, keys, len}
use Rattle.std.specs.Str.{IsCharBoundary}
use Rattle.sv_mapping.specs.Path.{Text}
use Rattle.sv_mapping.specs.Pattern.{matches, rule_of, precedes}
use Rattle.sv_mapping.specs.Search.{text_cmp}
use Rattle.sv_mapping.specs.ServletMatch.{Mapped, mapped_by, shown}
use Rattle.sv_mapping.specs.declared.fault.MappingFault.{MappingFault}
use Rattle.sv_mapping.specs.declared.fault.MappingFault.TheVariants.{DuplicatePattern, TooMany}
use Rattle.sv_mapping.specs.declared.servlet_match.Match.{Match}

-- the patterns of a context, each with the number of its servlet
abbrev pub Table : Type 0
Table = FinMap text_cmp ℕ

-- why a pattern is not mapped: it is mapped already, or the table has all the patterns that a context may have
unfoldable pub refusal : Table → Text → Option MappingFault
refusal table pattern =
    if contains_key table pattern then Some DuplicatePattern
    else if nat_le 256 (len table) then Some TooMany
    else None

-- The table has the pattern, it matches the path, and it precedes every other pattern of the table that does.
pub record IsBest (table : Table) (path pattern : Text) : Type 0 where
  pub listed : IsTrue (contains_key table pattern)
  pub matching : IsTrue (matches pattern path)
  pub first : (other : Text) → IsTrue (contains_key table other) → IsTrue (matches other path) → (other ≡ pattern) ⊎ IsTrue (precedes pattern other)

-- no pattern of the table matches the path
abbrev pub HasNoMatch : Table → Text → Type 0
HasNoMatch table path = (pattern : Text) → IsTrue (contains_key table pattern) → matches pattern path ≡ false

-- the one of two patterns that precedes the other
abbrev pub better : Text → Option Text → Text
better pattern None = pattern
better pattern (Some other) = if precedes other pattern then other else pattern

-- the best pattern of a list for a path
abbrev pub best_pattern : List Text → Text → Option Text
best_pattern [] path = None
best_pattern (pattern ∷ patterns) path =
    if matches pattern path then Some (better pattern (best_pattern patterns path)) else best_pattern patterns path

-- what a path is mapped to
unfoldable pub mapped : Table → Text → Option Mapped
mapped table path = option_and_then (λ pattern. option_map (λ servlet. mapped_by pattern servlet path) (get table pattern)) (best_pattern (keys table) path)

-- what a path is mapped to is what its best pattern says
abbrev pub IsMappedByBest : Table → Text → Mapped → Type 0
IsMappedByBest table path to =
    (pattern : Text) × IsBest table path pattern × (servlet : ℕ) × (get table pattern ≡ Some servlet) × (to ≡ mapped_by pattern servlet path)

-- a match is that of the pattern: its servlet, and what it shows of the path
pub record IsMatchOf (table : Table) (path pattern : Text) (found : Match) : Type 0 where
  pub servlet : get table pattern ≡ Some found.servlet
  pub parts : shown path found ≡ mapped_by pattern found.servlet path
  pub boundary : IsCharBoundary path found.split

-- the match of the best pattern
abbrev pub IsBestMatch : Table → Text → Match → Type 0
IsBestMatch table path found = (pattern : Text) × IsBest table path pattern × IsMatchOf table path pattern found

-- the match of the best pattern among those that go by one rule of section 12.1
pub record IsBestByRule (table : Table) (path : Text) (rule : ℕ) (found : Match) : Type 0 where
  pub pattern : Text
  pub goes_by : rule_of pattern ≡ rule
  pub matching : IsTrue (matches pattern path)
  pub longest : (other : Text) → IsTrue (contains_key table other) → rule_of other ≡ rule → IsTrue (matches other path) → (other ≡ pattern)
      ⊎ (length other < length pattern)
  pub match_of : IsMatchOf table path pattern found

abbrev pub AnswersByRule : Table → Text → ℕ → Option Match → Type 0
AnswersByRule table path rule answer =
    MatchOption answer
    ((pattern : Text) → IsTrue (contains_key table pattern) → rule_of pattern ≡ rule → matches pattern path ≡ false)
    (IsBestByRule table path rule)
