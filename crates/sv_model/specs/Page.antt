-- Plain pages.
use Rattle.std.specs.Prelude.{ℕ, Bool, List, [], ◌++◌, codes, unwrap_or}
use Rattle.http.specs.StatusCode.{code_digits, reason_phrase}
use Rattle.sv_model.specs.declared.field.Field.{Field}
use Rattle.sv_model.specs.declared.response.Response.{Response}
use Rattle.sv_model.specs.Field.{with_field, plain_type}

-- the phrase of a status, empty where it has none (RFC 9110, section 15)
unfoldable pub phrase : ℕ → List ℕ
phrase status = unwrap_or (reason_phrase status) []

-- the status, a space, its phrase and a line feed
abbrev pub plain_body : ℕ → List ℕ
plain_body status = code_digits status ++ codes " " ++ phrase status ++ codes "\n"

-- the page of a status after the fields set so far
abbrev pub plain_page : ℕ → List Field → Bool → Bool → Response
plain_page status fields head_only close =
    record { status = status; fields = with_field fields plain_type; body = plain_body status; head_only = head_only; close = close }
