-- The context of a path (Jakarta Servlet 6.0, section 12.1).
use Rattle.std.specs.Prelude.{◌≡◌, ℕ, suc, ◌<◌, ◌≤◌, Bool, true, false, ◌&&◌, nat_le, List}
use Rattle.std.specs.Prelude.{[], ◌∷◌, length, drop, slice_index_or, codes, if◌then◌else◌, Option, Some, None, IsTrue}
use Rattle.sv_mapping.specs.Path.{Text, is_at_or_below}

-- the context path at a place
abbrev pub context_at : List Text → ℕ → Text
context_at contexts place = slice_index_or contexts place []

-- The path is the context path at the place, or begins with it and a `/`. None of these context paths is longer, and
-- of equal ones it is the first.
pub record IsChosen (contexts : List Text) (path : Text) (place : ℕ) : Type 0 where
  pub within : place < length contexts
  pub below : IsTrue (is_at_or_below (context_at contexts place) path)
  pub longest : (other : ℕ) → other < length contexts → IsTrue (is_at_or_below (context_at contexts other) path)
      → length (context_at contexts other) ≤ length (context_at contexts place)
  pub first : (other : ℕ) → other < place → IsTrue (is_at_or_below (context_at contexts other) path)
      → length (context_at contexts other) < length (context_at contexts place)

-- the path lies below no context path
abbrev pub HasNoContext : List Text → Text → Type 0
HasNoContext contexts path = (place : ℕ) → place < length contexts → is_at_or_below (context_at contexts place) path ≡ false

-- the context path at a place is no shorter than one that is chosen after it
abbrev pub is_as_long : List Text → ℕ → Option ℕ → Bool
is_as_long contexts place None = true
is_as_long contexts place (Some later) = nat_le (length (context_at contexts later)) (length (context_at contexts place))

-- the one of a context path and the one chosen after it that is chosen of both
abbrev pub chosen_of : Bool → Text → List Text → Option ℕ → Option ℕ
chosen_of below context contexts None = if below then Some 0 else None
chosen_of below context contexts (Some later) = if below && nat_le (length (context_at contexts later)) (length context) then Some 0 else Some (suc later)

-- the place of the context that is chosen
abbrev pub chosen_context : List Text → Text → Option ℕ
chosen_context [] path = None
chosen_context (context ∷ contexts) path = chosen_of (is_at_or_below context path) context contexts (chosen_context contexts path)

-- a path within its context; nothing counts as `/`
abbrev pub rooted : Text → Text
rooted [] = codes "/"
rooted (c ∷ cs) = c ∷ cs

abbrev pub path_in_context : Text → Text → Text
path_in_context context path = rooted (drop (length context) path)
