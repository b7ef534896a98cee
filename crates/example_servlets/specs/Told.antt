-- What the shop is told by a request.
use Rattle.std.specs.Prelude.{ℕ, ◌&&◌, not, Bool, List, codes, length, nat_le, Option, Some, None, option_and_then, if◌then◌else◌}
use Rattle.std.specs.List.{list_all}
use Rattle.sv_model.specs.declared.request.Param.{Param}
use Rattle.sv_web.specs.Request.{parameter, parameter_or}
use Rattle.example_cart.specs.Form.{number_between, sent_in}
use Rattle.example_cart.specs.declared.form.Sent.{Sent}

-- the value of the first parameter of a name, or an empty text
abbrev pub text : List Param → List ℕ → List ℕ
text params name = parameter_or params name (codes "")

-- the form of an article
abbrev pub sent_of : List Param → Sent
sent_of params =
    sent_in (text params (codes "article")) (text params (codes "visit")) (text params (codes "page")) (text params (codes "do"))
    (text params (codes "quantity"))

-- the number of an order's form
abbrev pub order_form : List Param → Option ℕ
order_form params = number_between 0 65535 (text params (codes "form"))

-- blanks alone, and control characters
abbrev pub is_blank : List ℕ → Bool
is_blank name = list_all (λ c. nat_le c 32) name

abbrev pub fit : List ℕ → Option (List ℕ)
fit name = if not (is_blank name) && nat_le (length name) 192 then Some name else None

-- a name that is not blank, and of 192 bytes at most: 64 letters of a browser's have no more
abbrev pub name_of : List Param → Option (List ℕ)
name_of params = option_and_then fit (parameter params (codes "name"))
