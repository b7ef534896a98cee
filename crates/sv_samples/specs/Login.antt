-- What the servlet does that begins a user's session (Jakarta Servlet 6.0, chapter "Sessions").
use Rattle.std.specs.Prelude.{ℕ, List, ◌++◌, codes, is_some, if◌then◌else◌}
use Rattle.sv_session.specs.Fault.{fault_name}
use Rattle.sv_servlet.specs.Call.{Asked}
use Rattle.sv_servlet.specs.declared.servlet.Next.{Next}
use Rattle.sv_servlet.specs.declared.servlet.Next.TheVariants.{Done}
use Rattle.sv_web.specs.Attributes.{has_session}
use Rattle.sv_web.specs.Request.{parameter, parameter_or}
use Rattle.sv_web.specs.Steps.{create, invalidate, set_attribute, plain_text, written}
use Rattle.sv_web.specs.Work.{Create, Work, Ends, Editing, Looking}

abbrev pub welcomed : List ℕ → Work Next
welcomed user = written (codes "welcome " ++ user ++ codes "\n") Done

-- a session is made again, and why not is written
abbrev pub made_again : Work Next
made_again = Editing Create (Ends Done) (λ fault. written (fault_name fault ++ codes "\n") Done)

-- the session ends, and another is asked for
unfoldable pub begun_again : Work Next
begun_again = invalidate made_again

unfoldable pub named : Asked → List ℕ → Work Next
named c user = if is_some (parameter c.params (codes "again")) then begun_again else welcomed user

-- the session has the user's name
unfoldable pub kept : Asked → List ℕ → Work Next
kept c user = set_attribute (codes "user") user (named c user)

abbrev pub user_of : Asked → List ℕ
user_of c = parameter_or c.params (codes "user") (codes "anonymous")

-- a session is made
unfoldable pub created : Asked → Work Next
created c = create (kept c (user_of c))

-- the session that is held ends first, so that what was known of another user is gone
unfoldable pub begun : Asked → Work Next
begun c = Looking (λ e. if has_session e then invalidate (created c) else created c)

abbrev pub login : Asked → Work Next
login c = plain_text (begun c)
