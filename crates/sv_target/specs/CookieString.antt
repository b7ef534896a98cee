-- What a client sends of its cookies (RFC 6265, sections 4.2.1 and 5.4).
use Rattle.std.specs.Prelude.{◌≡◌, ℕ, false, List, [], ◌∷◌, ◌++◌, codes}
use Rattle.std.specs.List.{list_any}
use Rattle.sv_model.specs.declared.request.Cookie.{Cookie}
use Rattle.sv_model.specs.Blanks.{is_blank}
use Rattle.sv_target.specs.Cookies.{is_equals, is_semicolon}

-- a name, `=` and a value
abbrev pub pair_text : Cookie → List ℕ
pair_text cookie = cookie.name ++ (codes "=" ++ cookie.value)

-- the pairs, with a semicolon and a space between each two
abbrev pub cookie_string : List Cookie → List ℕ
cookie_string [] = []
cookie_string (c ∷ []) = pair_text c
cookie_string (c ∷ d ∷ cookies) = pair_text c ++ (codes "; " ++ cookie_string (d ∷ cookies))

-- a cookie as a server may set it (section 4.1.1): no `;` and no blank in it, and no `=` in its name
pub record IsSendable (cookie : Cookie) : Type 0 where
  pub semicolon : list_any is_semicolon (pair_text cookie) ≡ false
  pub blank : list_any is_blank (pair_text cookie) ≡ false
  pub equals : list_any is_equals cookie.name ≡ false
