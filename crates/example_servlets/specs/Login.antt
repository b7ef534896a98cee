-- Logging in.
use Rattle.std.specs.Prelude.{◌≡◌, ℕ, List, Option, Some, None, codes, if◌then◌else◌}
use Rattle.sv_model.specs.declared.key.Key.{Key}
use Rattle.sv_model.specs.declared.request.Param.{Param}
use Rattle.sv_model.specs.declared.session.Session.{Session}
use Rattle.sv_session.specs.Calls.{after, change_id_result}
use Rattle.sv_session.specs.Edit.{Edit}
use Rattle.sv_servlet.specs.Call.{Asked}
use Rattle.sv_servlet.specs.declared.servlet.Next.{Next}
use Rattle.sv_servlet.specs.declared.servlet.Next.TheVariants.{SendError}
use Rattle.sv_web.specs.Attributes.{has_session}
use Rattle.sv_web.specs.Methods.{by_method, method_work}
use Rattle.sv_web.specs.Steps.{change_id, create, set_attribute}
use Rattle.sv_web.specs.Work.{Ends, Looking, Work}
use Rattle.example_servlets.specs.Sent.{sent_on}
use Rattle.example_servlets.specs.Told.{name_of}

-- the session goes on under another id, or a new one is made
abbrev pub entered : Work Next → Work Next
entered more = Looking (λ e. if has_session e then change_id more else create more)

-- the name is kept, and the browser is sent on to the cart
unfoldable pub named : List ℕ → Work Next
named name = set_attribute (codes "name") name (sent_on (codes "cart"))

abbrev pub taken_as : Option (List ℕ) → Work Next
taken_as None = Ends (SendError 400 (codes "A name has 1 to 64 letters, and not blanks alone. Please log in above."))
taken_as (Some name) = entered (named name)

abbrev pub taken : List Param → Work Next
taken params = taken_as (name_of params)

abbrev pub posted : Asked → Work Next
posted call = taken call.params

-- the form alone is answered
abbrev pub login : Asked → Work Next
login call = by_method (method_work None (Some posted) None None) call

-- the edit whose session goes on under another id
abbrev pub renewed : Edit → Edit
renewed e = after e (change_id_result e)

-- a session as another one goes on: under its key, with another secret, and with all that it has
pub record GoesOnAs (fresh : Key × Session) (old : Key × Session) (e : Edit) : Type 0 where
  pub key : fresh.0 ≡ old.0
  pub secret : fresh.1.secret ≡ e.fresh.1
  pub attributes : fresh.1.attributes ≡ old.1.attributes
