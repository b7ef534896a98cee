-- Fields in order (RFC 9110, section 5).
use Rattle.std.specs.Prelude.{ℕ, List, [], ◌∷◌, ◌++◌, codes, Option, Some, None, position, slice_set}
use Rattle.std.specs.Str.{bytes_eq}
use Rattle.http_header.specs.FieldValue.{plain_value}
use Rattle.sv_model.specs.declared.field.Field.{Field}

-- the place of the first field of a name
abbrev pub place_of_field : List Field → List ℕ → Option ℕ
place_of_field fields name = position (λ f. bytes_eq f.name name) fields

-- the fields with one of them replaced, or with one more
abbrev pub put_field : Option ℕ → List Field → Field → List Field
put_field (Some at) fields f = slice_set fields at f
put_field None fields f = fields ++ f ∷ []

-- the fields with this one in the place of the first of its name, or last
unfoldable pub with_field : List Field → Field → List Field
with_field fields f = put_field (place_of_field fields f.name) fields f

-- `content-type: text/plain`
abbrev pub plain_type : Field
plain_type = record { name = codes "content-type"; value = plain_value (codes "text/plain") }
