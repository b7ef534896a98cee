-- The fields of a reply (RFC 9110, section 5), of texts that are the program's own.
use Rattle.std.specs.Prelude.{ℕ, List, codes, Option, Some, None, if◌then◌else◌}
use Rattle.http_header.specs.FieldValue.{FieldValue, is_visible_text, plain_value}
use Rattle.sv_model.specs.declared.field.Field.{Field}

-- a field's value of visible bytes
unfoldable pub visible_value : List ℕ → Option FieldValue
visible_value text = if is_visible_text text then Some (plain_value text) else None

-- the field of a name in lower case and a value
abbrev pub header : List ℕ → List ℕ → Field
header name value = record { name = name; value = plain_value value }

-- `content-type: text/html; charset=utf-8`
abbrev pub html_type : Field
html_type = header (codes "content-type") (codes "text/html; charset=utf-8")
