-- The steps that work is put together of: each is a call and what follows it, and where the call is refused, the error page of the
-- fault follows.
use Rattle.std.specs.Prelude.{ℕ, List, Option, Some, Result, Ok, Err}
use Rattle.sv_model.specs.Field.{plain_type}
use Rattle.sv_model.specs.declared.field.Field.{Field}
use Rattle.sv_session.specs.Calls.{get_result}
use Rattle.sv_session.specs.Fault.{fault_name as session_fault_name}
use Rattle.sv_session.specs.declared.fault.SessionFault.{SessionFault}
use Rattle.sv_servlet.specs.Reply.{fault_name as reply_fault_name}
use Rattle.sv_servlet.specs.declared.filter.Before.{Before}
use Rattle.sv_servlet.specs.declared.servlet.Next.{Next}
use Rattle.sv_web.specs.Header.{header, html_type}
use Rattle.sv_web.specs.Refusal.{fault_page, fault_sent}
use Rattle.sv_web.specs.SentCookie.{SentCookie}
use Rattle.sv_web.specs.Work.{EditCall, Create, ChangeId, Invalidate, SetValue, ReplyCall, AddField, SetCookie, SetField, SetStatus}
use Rattle.sv_web.specs.Work.{Write, Redirect, Work, Ends, Editing, Looking, Replying}

-- a call of the reply, and what follows it; where it is refused, the error page of the fault
abbrev pub replying : ReplyCall → Work Next → Work Next
replying call more = Replying call more (λ fault. Ends (fault_page (reply_fault_name fault)))

-- a call of the edit, and what follows it; where it is refused, the error page of the fault
abbrev pub editing : EditCall → Work Next → Work Next
editing call more = Editing call more (λ fault. Ends (fault_page (session_fault_name fault)))

abbrev pub set_status : ℕ → Work Next → Work Next
set_status code more = replying (SetStatus code) more

abbrev pub set_field : Field → Work Next → Work Next
set_field field more = replying (SetField field) more

abbrev pub write : List ℕ → Work Next → Work Next
write text more = replying (Write text) more

abbrev pub set_header : List ℕ → List ℕ → Work Next → Work Next
set_header name value more = set_field (header name value) more

abbrev pub add_header : List ℕ → List ℕ → Work Next → Work Next
add_header name value more = replying (AddField (header name value)) more

abbrev pub set_cookie : SentCookie → Work Next → Work Next
set_cookie cookie more = replying (SetCookie cookie) more

-- the body is plain text
abbrev pub plain_text : Work Next → Work Next
plain_text more = set_field plain_type more

-- the body is HTML in UTF-8
abbrev pub html : Work Next → Work Next
html more = set_field html_type more

-- a client is sent on to an address
abbrev pub redirect : List ℕ → Work Next → Work Next
redirect to more = replying (Redirect to) more

-- a text is written, and then follows what is given
abbrev pub written : List ℕ → Next → Work Next
written text next = write text (Ends next)

-- a session is made where none is held
abbrev pub create : Work Next → Work Next
create more = editing Create more

abbrev pub change_id : Work Next → Work Next
change_id more = editing ChangeId more

abbrev pub invalidate : Work Next → Work Next
invalidate more = editing Invalidate more

-- an attribute gets a value
abbrev pub set_attribute : List ℕ → List ℕ → Work Next → Work Next
set_attribute name value more = editing (SetValue name (Some value)) more

-- what is done with what a call shows that reads the edit; where it is refused, the error page of the fault
abbrev pub shown : {A : Type 0} → (A → Work Next) → Result A SessionFault → Work Next
shown more (Ok a) = more a
shown more (Err fault) = Ends (fault_page (session_fault_name fault))

-- what is done with an attribute's value; where no session is held, the error page of that fault
abbrev pub get_attribute : List ℕ → (Option (List ℕ) → Work Next) → Work Next
get_attribute name more = Looking (λ e. shown more (get_result e name))

-- what is done with the time of the request, in seconds
abbrev pub get_now : (ℕ → Work Next) → Work Next
get_now more = Looking (λ e. more e.now)

-- ---- filters

-- a text is written before a servlet, and then follows what is given; where it is refused, the error page of the fault
abbrev pub written_before : List ℕ → Before → Work Before
written_before text before = Replying (Write text) (Ends before) (λ fault. Ends (fault_sent (reply_fault_name fault)))

-- a text is written after a servlet where it fits
abbrev pub written_after : List ℕ → Work (Unit {0})
written_after text = Replying (Write text) (Ends tt) (λ fault. Ends tt)
