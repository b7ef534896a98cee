-- The session that cookies name, of whatever context.
use Rattle.std.specs.Prelude.{◌≡◌, ◌<◌, ℕ, List, Some, None}
use Rattle.sv_model.specs.declared.key.Key.{Key}
use Rattle.sv_model.specs.declared.key.Secret.{Secret}
use Rattle.sv_model.specs.declared.request.Cookie.{Cookie}
use Rattle.sv_model.specs.declared.session.TheConstants.{CONTEXT_LIMIT}
use Rattle.sv_target.specs.SessionCookie.{default_name, session_cookie}

-- they name no session of the contexts below the number
abbrev pub NamesNone : ℕ → List Cookie → Type 0
NamesNone count cookies = (context : ℕ) → context < count → session_cookie default_name cookies context ≡ None

-- they name the session, and none of a lesser context
pub record NamesFirst (cookies : List Cookie) (context : ℕ) (key : Key) (secret : Secret) : Type 0 where
  pub named : session_cookie default_name cookies context ≡ Some (key, secret)
  pub within : context < CONTEXT_LIMIT
  pub first : NamesNone context cookies

-- the session's cookie that has this value
abbrev pub cookie_with : List ℕ → Cookie
cookie_with value = record { name = default_name; value = value }
