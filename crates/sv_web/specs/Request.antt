-- What a request asks (Jakarta Servlet 6.0, section 3.1).
use Rattle.std.specs.Prelude.{ℕ, Bool, List, bytes_eq, codes, Option, option_map, unwrap_or}
use Rattle.std.specs.List.{find}
use Rattle.sv_model.specs.declared.field.Field.{Field}
use Rattle.sv_model.specs.declared.request.Cookie.{Cookie}
use Rattle.sv_model.specs.declared.request.Param.{Param}
use Rattle.sv_servlet.specs.declared.setting.Setting.{Setting}

-- the method is POST (RFC 9110, section 9.3.3)
abbrev pub is_post : List ℕ → Bool
is_post method = bytes_eq method (codes "POST")

abbrev pub is_of : List ℕ → Field → Bool
is_of name f = bytes_eq f.name name

-- the value of the first header field of a name in lower case
abbrev pub field : List Field → List ℕ → Option (List ℕ)
field fields name = option_map (λ f. f.value.bytes) (find (is_of name) fields)

abbrev pub is_cookie_of : List ℕ → Cookie → Bool
is_cookie_of name c = bytes_eq c.name name

-- the value of the first cookie of a name
abbrev pub cookie : List Cookie → List ℕ → Option (List ℕ)
cookie cookies name = option_map (λ c. c.value) (find (is_cookie_of name) cookies)

abbrev pub is_setting_of : List ℕ → Setting → Bool
is_setting_of name s = bytes_eq s.name name

-- the value of the first setting of a name
abbrev pub setting : List Setting → List ℕ → Option (List ℕ)
setting settings name = option_map (λ s. s.value) (find (is_setting_of name) settings)

abbrev pub has_name : List ℕ → Param → Bool
has_name name p = bytes_eq p.name name

-- the value of the first parameter of a name
abbrev pub parameter : List Param → List ℕ → Option (List ℕ)
parameter params name = option_map (λ p. p.value) (find (has_name name) params)

-- the same, or another text where there is none
abbrev pub parameter_or : List Param → List ℕ → List ℕ → List ℕ
parameter_or params name other = unwrap_or (parameter params name) other
