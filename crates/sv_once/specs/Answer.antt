-- An answer as it is kept: what a client sees of it (RFC 9110, section 3.4), as bytes.
use Rattle.std.specs.Prelude.{ℕ, zero, suc, Bool, ◌&&◌, List, [], ◌∷◌, ◌++◌, drop, length, map, nat_lt, nat_le, not, Option, Some, None, if◌then◌else◌}
use Rattle.std.specs.Char.{is_ascii_uppercase}
use Rattle.std.specs.List.{flat_map, list_all}
use Rattle.http_header.specs.FieldValue.{plain_value}
use Rattle.http_header.specs.Token.{is_value_byte, token_test}
use Rattle.sv_model.specs.Method.{is_head}
use Rattle.sv_model.specs.declared.field.Field.{Field}
use Rattle.sv_model.specs.declared.request.Request.{Request}
use Rattle.sv_model.specs.declared.response.Response.{Response}
use Rattle.sv_once.specs.Parts.{byte_at, long_at, long_first, long_number, long_part, long_rest, short_first, short_part, short_rest}
use Rattle.sv_once.specs.declared.answer.TheConstants.{ANSWER_LIMIT}

-- a status, the names and values of fields in order, and a body
pub record Answer : Type 0 where
  pub status : ℕ
  pub fields : List (List ℕ × List ℕ)
  pub body : List ℕ

abbrev pub shown_field : Field → List ℕ × List ℕ
shown_field f = (f.name, f.value.bytes)

-- what a client sees of a response
abbrev pub shown : Response → Answer
shown response = record { status = response.status; fields = map shown_field response.fields; body = response.body }

abbrev pub field_of : List ℕ × List ℕ → Field
field_of p = record { name = p.0; value = plain_value p.1 }

-- the response to a request that shows this
abbrev pub response_of : Request → Answer → Response
response_of r a = record { status = a.status; fields = map field_of a.fields; body = a.body; head_only = is_head r.method; close = r.close }

-- ---- what can be kept

-- a status of three digits
abbrev pub is_status : ℕ → Bool
is_status status = nat_le 100 status && nat_le status 999

-- a byte of a name in lower case
abbrev pub is_name_byte : ℕ → Bool
is_name_byte b = token_test b && not (is_ascii_uppercase b)

abbrev pub is_name : List ℕ → Bool
is_name name = nat_lt 0 (length name) && list_all is_name_byte name

-- the name and the value are those of a field (RFC 9110, sections 5.1 and 5.5), and their lengths have room
abbrev pub is_field : List ℕ × List ℕ → Bool
is_field p = (is_name p.0 && list_all is_value_byte p.1) && (nat_lt (length p.0) 256 && nat_lt (length p.1) 65536)

abbrev pub is_answer : ℕ → List (List ℕ × List ℕ) → Bool
is_answer status fields = is_status status && list_all is_field fields

-- ---- as bytes

abbrev pub field_bytes : List ℕ × List ℕ → List ℕ
field_bytes p = short_part p.0 ++ long_part p.1

-- the status, how many fields there are, each in turn, and the body
unfoldable pub answer_bytes : Answer → List ℕ
answer_bytes a = ((long_number a.status ++ length a.fields ∷ []) ++ flat_map field_bytes a.fields) ++ a.body

-- it can be kept: it has fewer than 256 fields, and is not too long
abbrev pub is_kept : Answer → Bool
is_kept a = (is_answer a.status a.fields && nat_lt (length a.fields) 256) && nat_le (length (answer_bytes a)) ANSWER_LIMIT

-- what is kept of a response; nothing where it is too long
unfoldable pub kept_answer : Response → List ℕ
kept_answer response = if is_kept (shown response) then answer_bytes (shown response) else []

-- ---- as it is read

abbrev pub field_at : List ℕ → List ℕ × List ℕ
field_at bytes = (short_first bytes, long_first (short_rest bytes))

abbrev pub past_field : List ℕ → List ℕ
past_field bytes = long_rest (short_rest bytes)

-- so many fields, and what follows them
unfoldable pub fields_in : ℕ → List ℕ → List (List ℕ × List ℕ)
fields_in zero bytes = []
fields_in (suc more) bytes = field_at bytes ∷ fields_in more (past_field bytes)

unfoldable pub past_fields : ℕ → List ℕ → List ℕ
past_fields zero bytes = bytes
past_fields (suc more) bytes = past_fields more (past_field bytes)

abbrev pub answer_with : ℕ → List (List ℕ × List ℕ) → List ℕ → Option Answer
answer_with status fields body =
    if is_answer status fields then Some (record { status = status; fields = fields; body = body }) else None

-- the answer that bytes keep, if they keep one
unfoldable pub answer_in : List ℕ → Option Answer
answer_in bytes = answer_with (long_at bytes) (fields_in (byte_at 2 bytes) (drop 3 bytes)) (past_fields (byte_at 2 bytes) (drop 3 bytes))
