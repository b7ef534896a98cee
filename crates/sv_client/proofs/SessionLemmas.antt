-- The session that a cookie names.
use Rattle.std.proofs.Common.{◌≡◌, ℕ, List, [], ◌∷◌, Some, codes}
use Rattle.std.proofs.lemmas.List.{append-nil}
use Rattle.http_header.specs.FieldValue.{FieldValue}
use Rattle.sv_model.specs.Keys.{IsKey}
use Rattle.sv_model.specs.declared.key.Key.{Key}
use Rattle.sv_model.specs.declared.key.Secret.{Secret}
use Rattle.sv_model.specs.declared.request.Cookie.{Cookie}
use Rattle.sv_target.specs.Cookies.{cookies_of, is_cookie_field, pairs_of}
use Rattle.sv_target.specs.SessionCookie.{default_name, session_cookie}
use Rattle.sv_target.proofs.NamedLemmas.{IsCookieOf-session_cookie}

-- its key is one that a node could have made
pub nameable : (cookies : List Cookie) (context : ℕ) (key : Key) (secret : Secret) → session_cookie default_name cookies context ≡ Some (key, secret) → IsKey key
nameable cookies context key secret found =
    let its = IsCookieOf-session_cookie default_name context key secret cookies found in
    (its.0.home, its.0.serial)

-- the pairs of one field are those of its value
pub pairs_alone : (value : FieldValue) → cookies_of (record { name = codes "cookie"; value = value } ∷ []) ≡ pairs_of value.bytes
unfolding is_cookie_field
pairs_alone value = append-nil (pairs_of value.bytes)
