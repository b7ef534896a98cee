-- JSON (RFC 8259).
use Rattle.std.specs.Prelude.{ℕ, Bool, false, List, ◌++◌, codes, Option, Some, None, Result, Ok, Err, if◌then◌else◌}
use Rattle.std.specs.Str.{is_utf8}
use Rattle.serde_json.specs.Data.{Data, string}
use Rattle.serde_json.specs.Read.{read}
use Rattle.serde_json.specs.View.{view}
use Rattle.serde_json.specs.Written.{compact_text}
use Rattle.serde_json.specs.declared.value.Value.{Value}
use Rattle.sv_model.specs.declared.field.Field.{Field}
use Rattle.sv_servlet.specs.Call.{Asked}
use Rattle.sv_servlet.specs.declared.servlet.Next.{Next}
use Rattle.sv_servlet.specs.declared.servlet.Next.TheVariants.{Done}
use Rattle.sv_web.specs.Cutting.{is_type}
use Rattle.sv_web.specs.Header.{header}
use Rattle.sv_web.specs.Request.{field}
use Rattle.sv_web.specs.Steps.{set_field, set_status, write}
use Rattle.sv_web.specs.Work.{Ends, Work}
use Rattle.sv_web.specs.declared.refusal.Refusal.{Refusal}

-- the value that a text is; none where it is no JSON in UTF-8
unfoldable pub value_in : List ℕ → Option Data
value_in text = if is_utf8 text then read text else None

-- what says why a request was refused
unfoldable pub error_text : List ℕ → List ℕ
error_text why = codes "{\"error\":" ++ compact_text (string why) ++ codes "}"

-- `content-type: application/json`
abbrev pub json_type : Field
json_type = header (codes "content-type") (codes "application/json")

-- a text is written that is JSON
abbrev pub written : List ℕ → Work Next → Work Next
written text more = set_field json_type (write text more)

-- the same with a status
abbrev pub written_by : ℕ → List ℕ → Work Next → Work Next
written_by code text more = set_status code (written text more)

-- a status is answered, and why
unfoldable pub refused : ℕ → List ℕ → Work Next → Work Next
refused code why more = written_by code (error_text why) more

-- the content type is `application/json`
abbrev pub is_json_by : Option (List ℕ) → Bool
is_json_by None = false
is_json_by (Some value) = is_type value (codes "application/json")

abbrev pub is_json : Asked → Bool
is_json call = is_json_by (field call.fields (codes "content-type"))

abbrev pub given : Option Data → (Data → Work Next) → Work Next
given None more = refused 400 (codes "the body is not JSON") (Ends Done)
given (Some d) more = more d

-- what is done with the value that the body is; 415 answers another content type, and 400 what is no JSON
unfoldable pub json : Asked → (Data → Work Next) → Work Next
json call more = if is_json call then given (value_in call.body) more else refused 415 (codes "the content type is not application/json") (Ends Done)

-- what a value stands for
abbrev pub seen : Result Value Refusal → Result Data Refusal
seen (Ok value) = Ok (view value)
seen (Err refusal) = Err refusal
