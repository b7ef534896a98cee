-- The fields of a reply (RFC 9110, sections 5.2 and 5.3; Jakarta Servlet 6.0, section 5.2).
use Rattle.std.specs.Prelude.{ℕ, ◌+◌, Bool, not, List, [], ◌∷◌, ◌++◌, take, drop, Option, Some, None}
use Rattle.std.specs.List.{filter}
use Rattle.std.specs.Str.{bytes_eq}
use Rattle.sv_model.specs.declared.field.Field.{Field}
use Rattle.sv_model.specs.Field.{place_of_field}

-- the field has another name
abbrev pub has_other_name : List ℕ → Field → Bool
has_other_name name f = not (bytes_eq f.name name)

-- a field at a place, after which no other of its name stays; or last
abbrev pub put_only : Option ℕ → List Field → Field → List Field
put_only None fields f = fields ++ f ∷ []
put_only (Some at) fields f = take at fields ++ f ∷ filter (has_other_name f.name) (drop (at + 1) fields)

-- the fields with this one in the place of the first of its name, and no other of its name; or last
unfoldable pub with_only : List Field → Field → List Field
with_only fields f = put_only (place_of_field fields f.name) fields f
