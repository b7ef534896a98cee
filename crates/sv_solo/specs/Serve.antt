-- What one call for a connection does.
use Rattle.std.specs.Prelude.{◌≡◌, ◌≢◌, ◌⊎◌, ℕ, ◌||◌, List, [], Bool, true, false, Option, Some, None, Result, Ok, Err, IfSome, codes, find}
use Rattle.std.specs.Io.KnownBytes.{Consumes, prepend_known}
use Rattle.sv_model.specs.declared.key.Moment.{Moment}
use Rattle.sv_model.specs.declared.response.Response.{Response}
use Rattle.sv_model.specs.declared.input.Input.{Input}
use Rattle.sv_model.specs.declared.input.Input.TheVariants.{Ask}
use Rattle.sv_model.specs.declared.output.Output.{Output}
use Rattle.sv_model.specs.declared.output.Output.TheVariants.{Answer, Refuse, Send, Moved, MoveRefused}
use Rattle.sv_model.specs.declared.output.Cause.TheVariants.{JournalFull, Memory as MemoryCause}
use Rattle.sv_model.specs.declared.site.StepFault.{StepFault}
use Rattle.sv_model.specs.declared.site.StepFault.TheVariants.{Failed, Full, Device, Memory as StepMemory}
use Rattle.sv_model.specs.Method.{is_head}
use Rattle.sv_message.specs.Message.{IsMessage}
use Rattle.sv_message.specs.Fault.{HasNoMessage}
use Rattle.sv_message.specs.declared.request.RawRequest.{RawRequest}
use Rattle.sv_message.specs.declared.fault.ReadFault.{ReadFault}
use Rattle.sv_target.specs.declared.fault.TargetFault.{TargetFault}
use Rattle.sv_target.specs.declared.target.Target.{Target as TargetValue}
use Rattle.sv_target.specs.Target.{IsTarget}
use Rattle.sv_connection.specs.declared.connection.Connection.{Connection}
use Rattle.sv_connection.specs.declared.outcome.RequestFault.TheVariants.{Read, Target}
use Rattle.sv_connection.specs.declared.outcome.Outcome.{Outcome}
use Rattle.sv_connection.specs.declared.outcome.Outcome.TheVariants.{Answered, Parked, Closed, Refused, ReadFailed, WriteFailed, Failed as SiteFailed}
use Rattle.sv_connection.specs.Connection.{held_by, is_closed, is_single, is_waiting}
use Rattle.sv_connection.specs.Receive.{StandsAt}
use Rattle.sv_connection.specs.Request.{request_of, HasTargetFault}
use Rattle.sv_connection.specs.Speak.{IsPage, IsSaid, status_of_read, status_of_target}
use Rattle.sv_solo.specs.declared.served.Served.{Served}
use Rattle.sv_solo.specs.Reply.{refusal, speaks_to}

-- how a call is made
pub record How : Type 0 where
  pub moment : Moment
  pub token : ℕ
  pub single : Bool

abbrev pub how : Moment → ℕ → Bool → How
how moment token single = record { moment = moment; token = token; single = single }

-- what a call sees: the unread bytes, the written ones, the site, and whether the connection is closed
pub record Sight (S : Type 0) : Type 0 where
  pub unread : Option (List ℕ)
  pub written : Option (List ℕ)
  pub site : S
  pub closed : Bool

abbrev pub sight : {S : Type 0} → Option (List ℕ) → Option (List ℕ) → S → Bool → Sight S
sight unread written site closed = record { unread = unread; written = written; site = site; closed = closed }

-- what a call sees of a connection, of what its reader has left, of what its writer holds, and of a site
abbrev pub sight_of : {S : Type 0} → Connection → Option (List ℕ) → Option (List ℕ) → S → Sight S
sight_of c to_come written site = sight (prepend_known (held_by c) to_come) written site (is_closed c)

-- what follows from a step's answer
pub data Verdict : Type 0 where
  Says : (response : Response) → Verdict
  Parks : (head_only : Bool) → Verdict
  Fails : Verdict

-- by the first output that speaks to the token
abbrev pub said_by : Bool → Bool → Option Output → Verdict
said_by head_only close None = Parks head_only
said_by head_only close (Some (Answer token response)) = Says response
said_by head_only close (Some (Refuse token cause)) = Says (refusal cause head_only close)
said_by head_only close (Some (Send packet)) = Parks head_only
said_by head_only close (Some Moved) = Parks head_only
said_by head_only close (Some (MoveRefused why)) = Parks head_only

abbrev pub verdict : ℕ → Bool → Bool → Result (List Output) StepFault → Verdict
verdict token head_only close (Ok outputs) = said_by head_only close (find (speaks_to token) outputs)
verdict token head_only close (Err Full) = Says (refusal JournalFull head_only close)
verdict token head_only close (Err StepMemory) = Says (refusal MemoryCause head_only close)
verdict token head_only close (Err Failed) = Fails
verdict token head_only close (Err Device) = Fails

-- the whole list of a step
abbrev pub outputs_of : Result (List Output) StepFault → List Output
outputs_of (Ok outputs) = outputs
outputs_of (Err fault) = []

-- what is written, by a verdict
abbrev pub Follows : Verdict → ℕ → Option (List ℕ) → Option (List ℕ) → Bool → Outcome → Type 0
Follows (Says response) now wo wn closed outcome = IsSaid response now Answered wo wn closed outcome
Follows (Parks head_only) now wo wn closed outcome = (outcome ≡ Parked head_only) × (wn ≡ wo) × (closed ≡ false)
Follows Fails now wo wn closed outcome = (outcome ≡ SiteFailed) × (wn ≡ wo) × (closed ≡ true)

-- the site will answer later
abbrev pub is_parked : Outcome → Bool
is_parked Answered = false
is_parked (Parked head_only) = true
is_parked Closed = false
is_parked (Refused fault) = false
is_parked ReadFailed = false
is_parked WriteFailed = false
is_parked SiteFailed = false

-- a request was answered, or is parked: the connection holds what it held, and waits if the request is parked
pub record Stays (old new : Connection) (outcome : Outcome) : Type 0 where
  pub held : held_by new ≡ held_by old
  pub single : is_single new ≡ is_single old
  pub waiting : is_waiting new ≡ is_parked outcome

-- a call that took no request, and what it met in place of one
pub data Idle {S : Type 0} (how : How) (old new : Sight S) (outcome : Outcome) : Type 0 where
  -- the connection was closed, or the input ends in no whole message
  AtEnd : (outcome ≡ Closed) → (old.closed ≡ true) ⊎ IfSome old.unread HasNoMessage → new.written ≡ old.written → Idle how old new outcome
  -- the reader failed, or gave no whole message in as many reads as one call makes
  Unread : (outcome ≡ ReadFailed) → new.written ≡ old.written → Idle how old new outcome
  -- a fault of the message, and its page
  Faulty : (fault : ReadFault) → StandsAt old.unread fault → IsPage (status_of_read fault) false how.moment.now
      (Read fault) old.written new.written new.closed outcome → Idle how old new outcome

-- no request was taken, and the site stands as it stood
pub record IsIdle {S : Type 0} (how : How) (old new : Sight S) (served : Served) : Type 0 where
  pub site : new.site ≡ old.site
  pub outputs : served.outputs.items ≡ []
  pub closed : new.closed ≡ true
  pub idle : Idle how old new served.outcome

-- the site was stepped once, by the request, and what it answered was said
pub record IsAnswered {S : Type 0} (steps : S → Moment → Input → Result (List Output) StepFault → S → Type 0) (how : How) (raw : RawRequest)
    (target : TargetValue) (so sn : S) (wo wn : Option (List ℕ)) (closed : Bool) (served : Served) : Type 0 where
  pub answer : Result (List Output) StepFault
  pub step : steps so how.moment (Ask how.token (request_of how.single raw target)) answer sn
  pub outputs : served.outputs.items ≡ outputs_of answer
  pub follows : Follows (verdict how.token (is_head raw.method) (raw.close || how.single) answer) how.moment.now wo wn closed served.outcome

-- the method and the target have a fault, or there was no memory for the path and the cookies: the site stands
pub record IsMisdirected {S : Type 0} (how : How) (raw : RawRequest) (so sn : S) (wo wn : Option (List ℕ)) (closed : Bool) (served : Served) : Type 0 where
  pub fault : TargetFault
  pub has_fault : HasTargetFault raw fault
  pub site : sn ≡ so
  pub outputs : served.outputs.items ≡ []
  pub closes : closed ≡ true
  pub page : IsPage (status_of_target fault) (is_head raw.method) how.moment.now (Target fault) wo wn closed served.outcome

-- the target was read, and the site was asked by the request that the message then says
pub record IsAsked {S : Type 0} (steps : S → Moment → Input → Result (List Output) StepFault → S → Type 0) (how : How) (raw : RawRequest)
    (so sn : S) (wo wn : Option (List ℕ)) (closed : Bool) (served : Served) : Type 0 where
  pub target : TargetValue
  pub read : IsTarget raw.target target
  pub method : raw.method ≢ codes "CONNECT"
  pub answered : IsAnswered steps how raw target so sn wo wn closed served

-- what a request leads to: by its target it is refused, or the site is asked
abbrev pub IsDirected : {S : Type 0} → (S → Moment → Input → Result (List Output) StepFault → S → Type 0) → How → RawRequest → S → S → Option (List ℕ)
    → Option (List ℕ) → Bool → Served → Type 0
IsDirected steps how raw so sn wo wn closed served = IsMisdirected how raw so sn wo wn closed served ⊎ IsAsked steps how raw so sn wo wn closed served

-- a message was taken from the front of the unread bytes, and led to what it leads to
pub record IsTaken {S : Type 0} (steps : S → Moment → Input → Result (List Output) StepFault → S → Type 0) (how : How) (old new : Sight S)
    (served : Served) : Type 0 where
  pub raw : RawRequest
  pub text : List ℕ
  pub message : IsMessage text raw
  pub taken : Consumes old.unread new.unread text
  pub directed : IsDirected steps how raw old.site new.site old.written new.written new.closed served

-- one call: no request was taken, or one was
abbrev pub IsServed : {S : Type 0} → (S → Moment → Input → Result (List Output) StepFault → S → Type 0) → How → Sight S → Sight S → Served → Type 0
IsServed steps how old new served = IsIdle how old new served ⊎ IsTaken steps how old new served
