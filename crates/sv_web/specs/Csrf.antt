-- The filter that tells a site's own forms from those of others by a token of the session (OWASP's synchronizer token pattern).
use Rattle.std.specs.Prelude.{ℕ, Bool, false, ◌&&◌, ◌||◌, List, bytes_eq, codes, Option, Some, None, is_none, option_map, Result, Ok, Err, if◌then◌else◌}
use Rattle.sv_session.specs.Calls.{get_result}
use Rattle.sv_session.specs.Edit.{Edit}
use Rattle.sv_session.specs.Fault.{fault_name}
use Rattle.sv_session.specs.declared.fault.SessionFault.{SessionFault}
use Rattle.sv_servlet.specs.Call.{Asked}
use Rattle.sv_servlet.specs.declared.filter.Before.{Before}
use Rattle.sv_servlet.specs.declared.filter.Before.TheVariants.{Pass, SendError}
use Rattle.sv_servlet.specs.declared.servlet.Next.{Next}
use Rattle.sv_web.specs.Attributes.{has_session}
use Rattle.sv_web.specs.Multipart.{PartOf, part}
use Rattle.sv_web.specs.Refusal.{fault_sent}
use Rattle.sv_web.specs.Request.{field, parameter}
use Rattle.sv_web.specs.Steps.{set_attribute, shown}
use Rattle.sv_web.specs.Tokens.{token_text}
use Rattle.sv_web.specs.Work.{Editing, Ends, FilterWork, Looking, SetValue, Work}

-- the attribute that has the token
abbrev pub attribute : List ℕ
attribute = codes "csrf"

abbrev pub value_or_none : Result (Option (List ℕ)) SessionFault → Option (List ℕ)
value_or_none (Ok value) = value
value_or_none (Err fault) = None

-- the token that the session keeps; none without a session
abbrev pub kept_token : Edit → Option (List ℕ)
kept_token e = value_or_none (get_result e attribute)

-- the token that is made in a request
abbrev pub new_token : Edit → List ℕ
new_token e = token_text e (codes "csrf")

-- ---- what a request brings

-- the methods that are to change nothing (RFC 9110, section 9.2.1)
abbrev pub is_safe : List ℕ → Bool
is_safe method = bytes_eq method (codes "GET") || bytes_eq method (codes "HEAD") || bytes_eq method (codes "OPTIONS") || bytes_eq method (codes "TRACE")

-- the first part `csrf` of a body of parts
abbrev pub part_token : Asked → Option (List ℕ)
part_token call = option_map (λ (p : PartOf). p.content) (part call (codes "csrf"))

abbrev pub or_else : Option (List ℕ) → Option (List ℕ) → Option (List ℕ)
or_else (Some token) other = Some token
or_else None other = other

-- the first parameter `csrf`, or else the field `x-csrf-token`, or else the first part `csrf`
abbrev pub brought : Asked → Option (List ℕ)
brought call = or_else (parameter call.params (codes "csrf")) (or_else (field call.fields (codes "x-csrf-token")) (part_token call))

-- both are there, and they are the same
abbrev pub is_same : Option (List ℕ) → Option (List ℕ) → Bool
is_same None token = false
is_same (Some sent) None = false
is_same (Some sent) (Some token) = bytes_eq sent token

-- ---- the work

-- a request that may change something has to bring the token of its session
abbrev pub admitted : Asked → Edit → Before
admitted call e = if is_same (brought call) (kept_token e) then Pass else SendError 403 (codes "This request has no token of its session.")

-- a token is made and kept
abbrev pub making : Edit → Work Before
making e = Editing (SetValue attribute (Some (new_token e))) (Ends Pass) (λ fault. Ends (fault_sent (fault_name fault)))

-- a session gets a token that has none
abbrev pub kept : Edit → Work Before
kept e = if has_session e && is_none (kept_token e) then making e else Ends Pass

abbrev pub before : Asked → Edit → Work Before
before call e = if is_safe call.method then kept e else Ends (admitted call e)

abbrev pub guarding : FilterWork
guarding = record { before = λ call. Looking (before call); after = λ call. Ends tt }

-- ---- for servlets

abbrev pub given : (List ℕ → Work Next) → Edit → Option (List ℕ) → Work Next
given more e (Some token) = more token
given more e None = set_attribute attribute (new_token e) (more (new_token e))

-- what is done with the session's token, which is made where there is none; without a session, the error page of that fault
unfoldable pub csrf_token : (List ℕ → Work Next) → Work Next
csrf_token more = Looking (λ e. shown (given more e) (get_result e attribute))
