-- Why the work of a servlet or a filter ends before it is done, and what is then answered.
use Rattle.std.specs.Prelude.{◌≡◌, ℕ, List, Option, Some, None, IfSome, IfOk, Result, Ok, Err}
use Rattle.sv_session.specs.Fault.{fault_name as session_fault_name}
use Rattle.sv_session.specs.declared.fault.SessionFault.{SessionFault}
use Rattle.sv_session.specs.declared.fault.SessionFault.TheVariants.{NoSession, BadName, ValueTooLong, SessionTooLarge}
use Rattle.sv_session.specs.declared.fault.SessionFault.TheVariants.{SecondCreation, SecretUsed, Memory as SessionMemory}
use Rattle.sv_servlet.specs.Filter.{verdict}
use Rattle.sv_servlet.specs.Reply.{fault_name as reply_fault_name}
use Rattle.sv_servlet.specs.Servlet.{Lent, answer}
use Rattle.sv_servlet.specs.declared.filter.Before.{Before}
use Rattle.sv_servlet.specs.declared.filter.Before.TheVariants.{SendError as RefuseBy, Stop}
use Rattle.sv_servlet.specs.declared.reply.ReplyFault.{ReplyFault}
use Rattle.sv_servlet.specs.declared.reply.ReplyFault.TheVariants.{BadStatus, BadHeader, Reserved, TooMany, TooLong, Memory as ReplyMemory}
use Rattle.sv_servlet.specs.declared.servlet.Next.{Next}
use Rattle.sv_servlet.specs.declared.servlet.Next.TheVariants.{Done, SendError}
use Rattle.sv_web.specs.Work.{Work, answered, judged, left}
use Rattle.sv_web.specs.declared.refusal.Refusal.{Refusal}
use Rattle.sv_web.specs.declared.refusal.Refusal.TheVariants.{Memory, Fault, Answered}

-- why work ends before it is done: memory was refused; a call was refused, by the fault of this name; or another answer than the one
-- that was wanted has been written
pub data Why : Type 0 where
  Lost : Why
  Failed : List ℕ → Why
  Over : Why

-- by a fault of the edit
abbrev pub session_label : SessionFault → Why
session_label NoSession = Failed (session_fault_name NoSession)
session_label BadName = Failed (session_fault_name BadName)
session_label ValueTooLong = Failed (session_fault_name ValueTooLong)
session_label SessionTooLarge = Failed (session_fault_name SessionTooLarge)
session_label SecondCreation = Failed (session_fault_name SecondCreation)
session_label SecretUsed = Failed (session_fault_name SecretUsed)
session_label SessionMemory = Lost

-- by a fault of the reply
abbrev pub reply_label : ReplyFault → Why
reply_label BadStatus = Failed (reply_fault_name BadStatus)
reply_label BadHeader = Failed (reply_fault_name BadHeader)
reply_label Reserved = Failed (reply_fault_name Reserved)
reply_label TooMany = Failed (reply_fault_name TooMany)
reply_label TooLong = Failed (reply_fault_name TooLong)
reply_label ReplyMemory = Lost

abbrev pub refusal_label : Refusal → Why
refusal_label Memory = Lost
refusal_label (Fault name) = Failed name.now
refusal_label Answered = Over

-- ---- servlets

-- the error page for a fault of this name
abbrev pub fault_page : List ℕ → Next
fault_page name = SendError 500 name

-- what follows where it ends early; nothing is said after want of memory
abbrev pub next_by : Why → Option Next
next_by Lost = None
next_by (Failed name) = Some (fault_page name)
next_by Over = Some Done

-- what follows a servlet's work
abbrev pub next_after : Result Next Refusal → Option Next
next_after (Ok next) = Some next
next_after (Err refusal) = next_by (refusal_label refusal)

-- a servlet has done the work, and what follows is what the work says; nothing is said after want of memory
abbrev pub Does : Work Next → Lent → Lent → Result Next Refusal → Type 0
Does w old new ended = IfSome (next_after ended) (λ next. answer new next ≡ answered w old)

-- a servlet has done a part of its work, which gives what the rest goes on with: whatever follows, what the part leaves goes on as if it
-- had been done in place; where it ends early, so does the work
abbrev pub DoesGiving : {A : Type 0} → ((A → Work Next) → Work Next) → Lent → Lent → Result A Refusal → Type 0
DoesGiving {A} part old new (Ok given) = (more : A → Work Next) → answered (part more) old ≡ answered (more given) new
DoesGiving {A} part old new (Err refusal) = IfSome (next_by (refusal_label refusal)) (λ next. (more : A → Work Next) → answer new next ≡ answered (part more) old)

-- the same of a part that gives nothing
abbrev pub DoesPart : (Work Next → Work Next) → Lent → Lent → Result (Unit {0}) Refusal → Type 0
DoesPart part old new (Ok u) = (more : Work Next) → answered (part more) old ≡ answered more new
DoesPart part old new (Err refusal) = IfSome (next_by (refusal_label refusal)) (λ next. (more : Work Next) → answer new next ≡ answered (part more) old)

-- ---- filters

-- the error page for a fault of this name
abbrev pub fault_sent : List ℕ → Before
fault_sent name = RefuseBy 500 name

-- what follows where it ends early; nothing is said after want of memory
abbrev pub before_by : Why → Option Before
before_by Lost = None
before_by (Failed name) = Some (fault_sent name)
before_by Over = Some Stop

-- what follows a filter's work before a servlet
abbrev pub before_after : Result Before Refusal → Option Before
before_after (Ok before) = Some before
before_after (Err refusal) = before_by (refusal_label refusal)

-- a filter has done the work before a servlet, and says what the work says; nothing is said after want of memory
abbrev pub DoesBefore : Work Before → Lent → Lent → Result Before Refusal → Type 0
DoesBefore w old new ended = IfSome (before_after ended) (λ before. verdict new before ≡ judged w old)

-- a filter has done the work after a servlet; nothing is said after want of memory
abbrev pub DoesAfter : {E : Type 0} → Work (Unit {0}) → Lent → Lent → Result (Unit {0}) E → Type 0
DoesAfter w old new ended = IfOk ended (λ u. new ≡ left w old)
