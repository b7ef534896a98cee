-- Where a search in entries that rise by their texts ends.
use Rattle.std.specs.Prelude.{◌≡◌, ℕ, ◌<◌, ◌≤◌, Bool, nat_le, List, length, slice_index_or}
use Rattle.std.specs.List.{list_all}
use Rattle.std.specs.Ordering.{nat_cmp}
use Rattle.std.specs.Cmp.Lexicographic.{slice_cmp}
use Rattle.std.specs.declared.cmp.Ordering.{Ordering}
use Rattle.std.specs.declared.cmp.Ordering.TheVariants.{Less, Greater}
use Rattle.sv_mapping.specs.Path.{Text}

-- texts are in the order of their bytes
abbrev pub text_cmp : Text → Text → Ordering
text_cmp = slice_cmp nat_cmp

-- the entry at a place has the text
pub record IsPlaceOf (entries : List (Text × ℕ)) (text : Text) (place : ℕ) : Type 0 where
  pub within : place < length entries
  pub same : (d : Text × ℕ) → (slice_index_or entries place d).0 ≡ text

-- an entry of the text would go in at a place: lesser texts stand before it, and greater ones from it on
pub record IsGapFor (entries : List (Text × ℕ)) (text : Text) (place : ℕ) : Type 0 where
  pub within : place ≤ length entries
  pub less : (k : ℕ) (d : Text × ℕ) → k < place → text_cmp (slice_index_or entries k d).0 text ≡ Less
  pub greater : (k : ℕ) (d : Text × ℕ) → place ≤ k → k < length entries → text_cmp (slice_index_or entries k d).0 text ≡ Greater

-- no text is longer than a pattern may be
abbrev pub are_short : List (Text × ℕ) → Bool
are_short entries = list_all (λ entry. nat_le (length entry.0) 256) entries
