-- Texts of paths: what a path lies below, and its extension (Jakarta Servlet 6.0, section 12.1).
use Rattle.std.specs.Prelude.{ℕ, Bool, ◌||◌, ◌==◌, List, [], ◌∷◌, ◌++◌, Option, Some, None, codes, bytes_eq, if◌then◌else◌, nat_eq}
use Rattle.std.specs.List.{after_last, list_any, starts_with}

-- a text, by its bytes
abbrev pub Text : Type 0
Text = List ℕ

abbrev pub is_slash : ℕ → Bool
is_slash c = c == 47

abbrev pub is_dot : ℕ → Bool
is_dot c = c == 46

-- what stands after the front of a text that begins with it
abbrev pub stripped : Text → Text → Option Text
stripped [] text = Some text
stripped (c ∷ front) [] = None
stripped (c ∷ front) (d ∷ text) = if c == d then stripped front text else None

-- the path is the front, or begins with the front and a `/`
unfoldable pub is_at_or_below : Text → Text → Bool
is_at_or_below front path = bytes_eq path front || starts_with nat_eq path (front ++ codes "/")

-- what stands after the last `/`, or the whole path where it has none
unfoldable pub last_segment : Text → Text
last_segment path = after_last is_slash path

-- what stands after the last `.` of the last segment, where that has one
unfoldable pub extension_of : Text → Option Text
extension_of path =
    let segment = last_segment path in
    if list_any is_dot segment then Some (after_last is_dot segment) else None
