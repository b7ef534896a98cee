-- A cookie that a server sets (RFC 6265, section 4.1.1; its attribute SameSite as the IETF's draft "Cookies: HTTP State Management
-- Mechanism" has it).
use Rattle.std.specs.Prelude.{◌≡◌, ℕ, ◌&&◌, ◌||◌, ◌-◌, ◌==◌, not, Bool, false, true, List, [], ◌++◌, bytes_eq, codes, decimal, drop, length, nat_le, nat_lt, take}
use Rattle.std.specs.Prelude.{slice_index, Option, Some, None, Result, Ok, Err, if◌then◌else◌}
use Rattle.std.specs.List.{list_all}
use Rattle.std.specs.Option.{option_map_or}
use Rattle.http_header.specs.FieldValue.{FieldValue}
use Rattle.http_header.specs.Token.{is_token_byte}
use Rattle.sv_model.specs.declared.field.Field.{Field}
use Rattle.sv_servlet.specs.Reply.{addition_result}
use Rattle.sv_servlet.specs.ReplyState.{ReplyState}
use Rattle.sv_servlet.specs.declared.reply.ReplyFault.{ReplyFault}
use Rattle.sv_servlet.specs.declared.reply.ReplyFault.TheVariants.{BadStatus, BadHeader, Reserved, TooMany, TooLong, Memory}
use Rattle.sv_web.specs.Header.{visible_value}
use Rattle.sv_web.specs.SentCookie.{SentCookie}
use Rattle.sv_web.specs.declared.same_site.SameSite.{SameSite}
use Rattle.sv_web.specs.declared.same_site.SameSite.TheVariants.{Strict, Lax, None as AnySite}

-- ---- the grammar

-- cookie-name = token
abbrev pub is_name : List ℕ → Bool
is_name name = nat_lt 0 (length name) && list_all is_token_byte name

-- cookie-octet = %x21 / %x23-2B / %x2D-3A / %x3C-5B / %x5D-7E
abbrev pub is_octet : ℕ → Bool
is_octet c = (c == 33) || (nat_le 35 c && nat_le c 43) || (nat_le 45 c && nat_le c 58) || (nat_le 60 c && nat_le c 91) || (nat_le 93 c && nat_le c 126)

-- cookie-value = *cookie-octet / ( DQUOTE *cookie-octet DQUOTE )
abbrev pub is_quoted : List ℕ → Bool
is_quoted value = nat_le 2 (length value) && (slice_index value 0 == 34) && (slice_index value (length value - 1) == 34)

abbrev pub unquoted : List ℕ → List ℕ
unquoted value = if is_quoted value then take (length value - 1 - 1) (drop 1 value) else value

abbrev pub is_value : List ℕ → Bool
is_value value = list_all is_octet (unquoted value)

-- path-value = *any CHAR except CTLs or ";"
abbrev pub is_path_byte : ℕ → Bool
is_path_byte c = nat_le 32 c && nat_le c 126 && not (c == 59)

abbrev pub is_path : List ℕ → Bool
is_path path = list_all is_path_byte path

-- a cookie without attributes
abbrev pub bare : List ℕ → List ℕ → SentCookie
bare name value = record { name = name; value = value; path = None; max_age = None; is_secure = false; is_http_only = false; same_site = None }

abbrev pub is_cookie : SentCookie → Bool
is_cookie c = is_name c.name && is_value c.value && option_map_or is_path c.path true

-- ---- its text

abbrev pub path_part : Option (List ℕ) → List ℕ
path_part None = []
path_part (Some path) = codes "; Path=" ++ path

-- Max-Age begins with a digit that isn't 0, so what is to be forgotten gets a date that is over.
abbrev pub age_text : ℕ → List ℕ
age_text seconds = if seconds == 0 then codes "; Expires=Thu, 01 Jan 1970 00:00:00 GMT" else codes "; Max-Age=" ++ decimal seconds

abbrev pub age_part : Option ℕ → List ℕ
age_part None = []
age_part (Some seconds) = age_text seconds

abbrev pub site_part : Option SameSite → List ℕ
site_part None = []
site_part (Some Strict) = codes "; SameSite=Strict"
site_part (Some Lax) = codes "; SameSite=Lax"
site_part (Some AnySite) = codes "; SameSite=None"

abbrev pub part_if : Bool → List ℕ → List ℕ
part_if is part = if is then part else []

-- set-cookie-string = cookie-pair *( ";" SP cookie-av )
unfoldable pub cookie_text : SentCookie → List ℕ
cookie_text c =
    ((((((c.name ++ codes "=") ++ c.value) ++ path_part c.path) ++ age_part c.max_age) ++ part_if c.is_secure (codes "; Secure"))
    ++ part_if c.is_http_only (codes "; HttpOnly")) ++ site_part c.same_site

-- ---- the call

abbrev pub cookie_field : FieldValue → Field
cookie_field value = record { name = codes "set-cookie"; value = value }

-- the field is added; a text of the grammar is one of visible bytes
abbrev pub added_by : Option FieldValue → ReplyState → Result ReplyState ReplyFault
added_by None r = Err BadHeader
added_by (Some value) r = addition_result r (cookie_field value)

-- the container names the session itself (Jakarta Servlet 6.0, section 7.1.1)
abbrev pub is_session_name : List ℕ → Bool
is_session_name name = bytes_eq name (codes "JSESSIONID")

-- what is expected where a cookie is set
abbrev pub cookie_result : ReplyState → SentCookie → Result ReplyState ReplyFault
cookie_result r c =
    if is_cookie c then (if is_session_name c.name then Err Reserved else added_by (visible_value (cookie_text c)) r) else Err BadHeader

-- what is answered, and what is left: what is expected, or Memory, which may be refused for the text; after a fault the reply is as it was
abbrev pub SetsCookie : ReplyState → Result ReplyState ReplyFault → Result (Unit {0}) ReplyFault → ReplyState → Type 0
SetsCookie old expected (Ok _) new = expected ≡ Ok new
SetsCookie old expected (Err Memory) new = new ≡ old
SetsCookie old expected (Err BadStatus) new = (expected ≡ Err BadStatus) × (new ≡ old)
SetsCookie old expected (Err BadHeader) new = (expected ≡ Err BadHeader) × (new ≡ old)
SetsCookie old expected (Err Reserved) new = (expected ≡ Err Reserved) × (new ≡ old)
SetsCookie old expected (Err TooMany) new = (expected ≡ Err TooMany) × (new ≡ old)
SetsCookie old expected (Err TooLong) new = (expected ≡ Err TooLong) × (new ≡ old)
