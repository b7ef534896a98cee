-- The cookie that names a session (Jakarta Servlet 6.0, section 7.1.1).
use Rattle.std.specs.Prelude.{◌≡◌, ℕ, ◌<◌, ◌^◌, Bool, ◌&&◌, ◌==◌, nat_lt, All, List, length, ◌∷◌}
use Rattle.std.specs.Prelude.{◌++◌, slice_get, slice_index, slice_range, codes, bytes_eq, Option, Some, None, option_and_then, if◌then◌else◌}
use Rattle.std.specs.List.{filter_map}
use Rattle.std.specs.Int.{w64, to_be_bytes, from_be_bytes}
use Rattle.hex.specs.Hex.{encode_lower}
use Rattle.sv_model.specs.declared.key.Key.{Key}
use Rattle.sv_model.specs.declared.key.Secret.{Secret}
use Rattle.sv_model.specs.declared.key.TheConstants.{NODE_LIMIT}
use Rattle.sv_model.specs.declared.request.Cookie.{Cookie}
use Rattle.sv_target.specs.Digits.{spelled_bytes}

-- the name of the cookie where nobody chooses another (Jakarta Servlet 6.0, section 7.1.1)
abbrev pub default_name : List ℕ
default_name = codes "JSESSIONID"

-- what a session's cookie says, in 26 bytes: the context, the home, the serial (8 bytes, the highest first), the secret
abbrev pub session_bytes : ℕ → Key → Secret → List ℕ
session_bytes context key secret = context ∷ key.home ∷ (to_be_bytes w64 key.serial ++ secret.0)

-- the value of a session's cookie: these bytes in 52 digits of `0-9a-f`
unfoldable pub cookie_text : ℕ → Key → Secret → List ℕ
cookie_text context key secret = encode_lower (session_bytes context key secret)

abbrev pub key_of : List ℕ → Key
key_of bytes = record { home = slice_index bytes 1; serial = from_be_bytes w64 (slice_range bytes 2 10) }

abbrev pub secret_of : List ℕ → Secret
secret_of bytes = record { 0 = slice_range bytes 10 26 }

-- the bytes are of this context, and their key is one that a node can make: a home below 8 and a serial above 0
abbrev pub names_session : ℕ → List ℕ → Bool
names_session context bytes = slice_index bytes 0 == context && nat_lt (key_of bytes).home NODE_LIMIT && nat_lt 0 (key_of bytes).serial

-- the session of a context that such bytes name
unfoldable pub session_of_bytes : ℕ → List ℕ → Option (Key × Secret)
session_of_bytes context bytes = if names_session context bytes then Some (key_of bytes, secret_of bytes) else None

-- the session of a context that one cookie names, where session cookies have this name
unfoldable pub session_of_cookie : List ℕ → ℕ → Cookie → Option (Key × Secret)
session_of_cookie name context cookie =
    if bytes_eq cookie.name name then option_and_then (session_of_bytes context) (spelled_bytes cookie.value) else None

-- the session of a context that cookies name: the first of those that they name
unfoldable pub session_cookie : List ℕ → List Cookie → ℕ → Option (Key × Secret)
session_cookie name cookies context = slice_get (filter_map (session_of_cookie name context) cookies) 0

-- a session that a cookie can name: numbers within their types, a home below 8 and a serial above 0
pub record IsNameable (context : ℕ) (key : Key) (secret : Secret) : Type 0 where
  pub context_fits : context < 2 ^ 8
  pub home : key.home < NODE_LIMIT
  pub serial : 0 < key.serial
  pub serial_fits : key.serial < 2 ^ 64
  pub secret_len : length secret.0 ≡ 16
  pub secret_fits : All (λ b. b < 2 ^ 8) secret.0

-- a cookie is the cookie of a session
abbrev pub IsCookieOf : List ℕ → ℕ → Key → Secret → Cookie → Type 0
IsCookieOf name context key secret cookie = (cookie.name ≡ name) × (cookie.value ≡ cookie_text context key secret)
