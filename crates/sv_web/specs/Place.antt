-- Paths of the own context (RFC 3986, section 3.3), and redirects to them.
use Rattle.std.specs.Prelude.{ℕ, ◌&&◌, ◌||◌, ◌==◌, not, true, Bool, List, [], ◌∷◌, ◌++◌, codes, nat_le, Option, Some, None}
use Rattle.http_header.specs.FieldValue.{FieldValue}
use Rattle.sv_model.specs.declared.field.Field.{Field}
use Rattle.sv_servlet.specs.Call.{Asked}
use Rattle.sv_servlet.specs.Reply.{fault_name}
use Rattle.sv_servlet.specs.declared.reply.ReplyFault.TheVariants.{BadHeader}
use Rattle.sv_servlet.specs.declared.servlet.Next.{Next}
use Rattle.sv_servlet.specs.declared.servlet.Next.TheVariants.{Done}
use Rattle.sv_web.specs.Cutting.{begins_with}
use Rattle.sv_web.specs.Header.{visible_value}
use Rattle.sv_web.specs.Refusal.{fault_page}
use Rattle.sv_web.specs.Steps.{set_field, set_status}
use Rattle.sv_web.specs.Work.{Ends, Work}

-- a letter or a digit
abbrev pub is_letter : ℕ → Bool
is_letter c = (nat_le 48 c && nat_le c 57) || (nat_le 65 c && nat_le c 90) || (nat_le 97 c && nat_le c 122)

-- a byte of a path or a query, escapes among them (RFC 3986, sections 3.3 and 3.4): letters, digits, and `!$%&'()*+,-./:;=?@_~`
abbrev pub is_path_byte : ℕ → Bool
is_path_byte c =
    is_letter c || (c == 33) || (nat_le 36 c && nat_le c 47) || (c == 58) || (c == 59) || (c == 61) || (c == 63) || (c == 64) || (c == 95) || (c == 126)

-- a segment begins that is empty, or with a dot, also with an escaped one
abbrev pub is_apart : List ℕ → Bool
is_apart text = begins_with text (codes "/") || begins_with text (codes ".") || begins_with text (codes "%2e") || begins_with text (codes "%2E")

abbrev pub fits : ℕ → List ℕ → Bool
fits c rest = is_path_byte c && not ((c == 47) && is_apart rest)

-- each byte is one of a path, and no segment is apart
unfoldable pub is_within : List ℕ → Bool
is_within [] = true
is_within (c ∷ cs) = fits c cs && is_within cs

-- a path that leads nowhere but into the context, however a client reads it: it begins with `/`
abbrev pub is_own_path : List ℕ → Bool
is_own_path path = begins_with path (codes "/") && is_within path

-- the field that names an address
abbrev pub location : FieldValue → Field
location value = record { name = codes "location"; value = value }

-- the redirect to an address that is a field's value; any other is refused as a field is
abbrev pub sent_by : Option FieldValue → Work Next
sent_by None = Ends (fault_page (fault_name BadHeader))
sent_by (Some value) = set_field (location value) (set_status 303 (Ends Done))

-- a client is sent on to a path of the context
unfoldable pub sent_to : Asked → List ℕ → Work Next
sent_to call path = sent_by (visible_value (call.context_path ++ path))
