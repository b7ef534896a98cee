-- What a request asks, and the key by which it may be sent again (the IETF's draft "The Idempotency-Key HTTP Header Field").
use Rattle.std.specs.Prelude.{◌≡◌, ℕ, ◌<◌, ◌^◌, Bool, ◌&&◌, ◌||◌, List, [], ◌∷◌, ◌++◌, take, length, codes, Option, Some, None, option_map, unwrap_or}
use Rattle.std.specs.Prelude.{nat_lt, nat_le, if◌then◌else◌}
use Rattle.std.specs.Int.{w64, to_be_bytes}
use Rattle.std.specs.List.{find}
use Rattle.std.specs.Str.{bytes_eq}
use Rattle.sha2.specs.Sha256.{sha256}
use Rattle.sv_model.specs.declared.field.Field.{Field}
use Rattle.sv_model.specs.declared.request.Param.{Param}
use Rattle.sv_model.specs.declared.request.Request.{Request}
use Rattle.sv_once.specs.declared.choice.Choice.{Choice}

-- ---- the key

-- the methods that are to change nothing (RFC 9110, section 9.2.1); any number of their requests may be sent
abbrev pub is_safe : List ℕ → Bool
is_safe method =
    bytes_eq method (codes "GET") || (bytes_eq method (codes "HEAD") || (bytes_eq method (codes "OPTIONS") || bytes_eq method (codes "TRACE")))

-- the value of the first field of a name
abbrev pub field_value : List ℕ → List Field → Option (List ℕ)
field_value name fields = option_map (λ f. f.value.bytes) (find (λ f. bytes_eq f.name name) fields)

-- the value of the first parameter of a name
abbrev pub param_value : List ℕ → List Param → Option (List ℕ)
param_value name params = option_map (λ p. p.value) (find (λ p. bytes_eq p.name name) params)

abbrev pub param_key : Option (List ℕ) → List Param → Option (List ℕ)
param_key None params = None
param_key (Some name) params = param_value name params

-- the value of the parameter that is chosen, or else that of the field
abbrev pub param_or_field : Option (List ℕ) → Request → Option (List ℕ)
param_or_field (Some key) r = Some key
param_or_field None r = field_value (codes "idempotency-key") r.fields

-- the key of a request; one that is to change nothing has none
unfoldable pub key_of : Choice → Request → Option (List ℕ)
key_of c r = if is_safe r.method then None else param_or_field (param_key c.parameter r.params) r

-- a key has 1 to 64 bytes
abbrev pub is_key : List ℕ → Bool
is_key key = nat_lt 0 (length key) && nat_le (length key) 64

-- ---- what is asked

-- a text after its length
abbrev pub part : List ℕ → List ℕ
part text = to_be_bytes w64 (length text) ++ text

abbrev pub query_part : Option (List ℕ) → List ℕ
query_part None = 0 ∷ []
query_part (Some query) = 1 ∷ part query

-- the method, the path and the query as they were sent, and the body, parted so that two requests that differ in one of these
-- never have one content
unfoldable pub content_of : Request → List ℕ
content_of r = ((part r.method ++ part r.raw_path) ++ query_part r.query) ++ r.body

-- the first 16 bytes of its SHA-256 (FIPS 180-4)
unfoldable pub mark_of : Request → List ℕ
mark_of r = take 16 (sha256 (content_of r))

-- two requests ask the same
pub record IsSameAsk (a b : Request) : Type 0 where
  pub method : a.method ≡ b.method
  pub path : a.raw_path ≡ b.raw_path
  pub query : a.query ≡ b.query
  pub body : a.body ≡ b.body

-- the lengths of a request's parts have room in 64 bits
pub record HasLengths (r : Request) : Type 0 where
  pub method : length r.method < 2 ^ 64
  pub path : length r.raw_path < 2 ^ 64
  pub query : length (unwrap_or r.query []) < 2 ^ 64
