-- The field that names a session to the client: one that is new, or one whose id was changed (RFC 6265, section 4.1;
-- Jakarta Servlet 6.0, section "Cookies").
use Rattle.std.specs.Prelude.{ℕ, Bool, true, false, Option, Some, None, List, [], ◌∷◌, ◌++◌, codes}
use Rattle.std.specs.List.{list_all}
use Rattle.http_header.specs.FieldValue.{plain_value}
use Rattle.sv_model.specs.declared.key.Key.{Key}
use Rattle.sv_model.specs.declared.key.Secret.{Secret}
use Rattle.sv_model.specs.declared.field.Field.{Field}
use Rattle.sv_model.specs.declared.response.Response.{Response}
use Rattle.sv_model.specs.declared.outcome.Birth.{Birth}
use Rattle.sv_model.specs.declared.outcome.Birth.TheVariants.{Absent, Alive, Ended as BirthEnded}
use Rattle.sv_model.specs.declared.outcome.Fate.{Fate}
use Rattle.sv_model.specs.declared.outcome.Fate.TheVariants.{Untouched, Kept, Ended as FateEnded}
use Rattle.sv_mapping.specs.Pattern.{is_printed}
use Rattle.sv_config.specs.declared.cookie.SameSite.{SameSite}
use Rattle.sv_config.specs.declared.cookie.SameSite.TheVariants.{Strict, Lax, None as AnySite}
use Rattle.sv_target.specs.SessionCookie.{cookie_text}
use Rattle.sv_container.specs.declared.set_cookie.SessionCookie.{SessionCookie}

-- the text can stand in the value of a field (RFC 9110, section 5.5)
abbrev pub is_sendable : List ℕ → Bool
is_sendable path = list_all is_printed path

-- the paths of a context: its context path, or `/`
abbrev pub cookie_path : List ℕ → List ℕ
cookie_path [] = codes "/"
cookie_path (c ∷ cs) = c ∷ cs

-- the attributes that a descriptor may choose (RFC 6265, section 4.1.2.5; RFC 6265bis, section 4.1.2.7)
abbrev pub secure_text : Bool → List ℕ
secure_text true = codes "; Secure"
secure_text false = []

abbrev pub same_site_text : Option SameSite → List ℕ
same_site_text None = []
same_site_text (Some Strict) = codes "; SameSite=Strict"
same_site_text (Some Lax) = codes "; SameSite=Lax"
same_site_text (Some AnySite) = codes "; SameSite=None"

-- the cookie's name and value
abbrev pub named_value : List ℕ → ℕ → Key × Secret → List ℕ
named_value name context named = name ++ codes "=" ++ cookie_text context named.0 named.1

-- for the paths of the context, and hidden from scripts (RFC 6265, sections 4.1.2.4 and 4.1.2.6)
abbrev pub cookie_value : SessionCookie → ℕ → List ℕ → Key × Secret → List ℕ
cookie_value cookie context path named =
    named_value cookie.name context named ++ codes "; Path=" ++ cookie_path path ++ codes "; HttpOnly" ++ secure_text cookie.secure ++ same_site_text cookie.same_site

abbrev pub cookie_field : SessionCookie → ℕ → List ℕ → Key × Secret → Field
cookie_field cookie context path named = record { name = codes "set-cookie"; value = plain_value (cookie_value cookie context path named) }

-- the session of this key, where it is kept, with the secret that it has now
abbrev pub kept_session : Option Key → Fate → Option (Key × Secret)
kept_session None fate = None
kept_session (Some key) Untouched = None
kept_session (Some key) (Kept s) = Some (key, s.secret)
kept_session (Some key) FateEnded = None

-- and where its id was changed
abbrev pub changed_session : Option Key → Fate → Bool → Option (Key × Secret)
changed_session key fate true = kept_session key fate
changed_session key fate false = None

-- The session that the client has to know of, by the key of the one that was joined, the key and secret of a birth, and
-- what the edit left: one that was made and lives on, or the one that was joined, where its id was changed and it is kept.
abbrev pub announced : Option Key → Key × Secret → Fate → Birth → Bool → Option (Key × Secret)
announced joined fresh fate Absent id_changed = changed_session joined fate id_changed
announced joined fresh fate (Alive s) id_changed = Some fresh
announced joined fresh fate BirthEnded id_changed = changed_session joined fate id_changed

-- the session is named after the application's fields; no other is named
abbrev pub fields_with : SessionCookie → ℕ → List ℕ → Option (Key × Secret) → List Field → List Field
fields_with cookie context path None fields = fields
fields_with cookie context path (Some named) fields = fields ++ cookie_field cookie context path named ∷ []

abbrev pub with_cookie : SessionCookie → ℕ → List ℕ → Option (Key × Secret) → Response → Response
with_cookie cookie context path named r = record r { fields = fields_with cookie context path named r.fields }
