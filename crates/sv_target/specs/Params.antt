-- The parameters of a query and of a form (URL Standard, section 5.1; Jakarta Servlet 6.0, section 3.1).
use Rattle.std.specs.Prelude.{ℕ, Bool, ◌&&◌, List, [], ◌++◌, map, codes, bytes_eq, false, if◌then◌else◌}
use Rattle.std.specs.Option.{option_map_or}
use Rattle.std.specs.List.{before_first, find}
use Rattle.std.specs.Str.{str_eq_ignore_ascii_case}
use Rattle.std.specs.Str.Lossy.{utf8_lossy}
use Rattle.form_urlencoded.specs.Form.{decode, raw_pairs}
use Rattle.sv_model.specs.Blanks.{trim}
use Rattle.sv_model.specs.declared.field.Field.{Field}
use Rattle.sv_model.specs.declared.request.Param.{Param}
use Rattle.sv_target.specs.Segment.{is_semicolon}

-- the text that a name or a value stands for: `+` is a space, escapes are decoded, bytes that are no UTF-8 become U+FFFD
unfoldable pub text_of : List ℕ → List ℕ
text_of raw = utf8_lossy (decode raw)

abbrev pub param_of : List ℕ × List ℕ → Param
param_of pair = record { name = text_of pair.0; value = text_of pair.1 }

-- the parameters of a text, in order: one for each piece between `&` that isn't empty
abbrev pub params_in : List ℕ → List Param
params_in text = map param_of (raw_pairs text)

-- those of the query, and then those of the form
abbrev pub params_of : List ℕ → List ℕ → List Param
params_of query form = params_in query ++ params_in form

unfoldable pub is_content_type : Field → Bool
is_content_type f = bytes_eq f.name (codes "content-type")

-- a field's value without the parameters after its media type
abbrev pub media_type : List ℕ → List ℕ
media_type value = before_first is_semicolon value

-- the media type of a form in any case, whatever its parameters (RFC 9110, section 8.3.1)
unfoldable pub is_form_type : List ℕ → Bool
is_form_type value =
    str_eq_ignore_ascii_case (trim (media_type value)) (codes "application/x-www-form-urlencoded")

-- the first Content-Type field has the media type of a form
abbrev pub has_form_type : List Field → Bool
has_form_type fields = option_map_or (λ f. is_form_type f.value.bytes) (find is_content_type fields) false

-- the form that the body of a request is: nothing but for POST with a form's media type
abbrev pub form_of : List ℕ → List Field → List ℕ → List ℕ
form_of method fields body = if bytes_eq method (codes "POST") && has_form_type fields then body else []
