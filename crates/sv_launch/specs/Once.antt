-- How a stream of requests is served.
use Rattle.std.specs.Prelude.{◌≡◌, ◌⊎◌, ℕ, ◌+◌, ◌^◌, Bool, false, List, [], ◌∷◌, ◌++◌, Option, Some, None, Result, Ok, Err}
use Rattle.std.proofs.Common.{inl, inr}
use Rattle.std.specs.Io.KnownBytes.{prepend_known}
use Rattle.sv_model.specs.declared.key.Moment.{Moment}
use Rattle.sv_model.specs.declared.input.Input.{Input}
use Rattle.sv_model.specs.declared.input.Input.TheVariants.{Ask}
use Rattle.sv_model.specs.declared.output.Output.{Output}
use Rattle.sv_model.specs.declared.site.StepFault.{StepFault}
use Rattle.sv_connection.specs.declared.outcome.Outcome.{Outcome}
use Rattle.sv_connection.specs.declared.outcome.Outcome.TheVariants.{Answered, Parked, Closed, Refused, ReadFailed, WriteFailed, Failed}
use Rattle.sv_solo.specs.declared.served.Served.{Served}
use Rattle.sv_model.specs.Engine.{EngineMeaning}
use Rattle.sv_solo.specs.declared.solo.Solo.{Solo}
use Rattle.sv_model.specs.Alone.{Call, trace_of}
use Rattle.sv_model.specs.Trace.{asked_of, AreDistinct}
use Rattle.sv_model.specs.OneContainer.{IsOneContainer, IsAcknowledged, IsServedOnce, active_at}
use Rattle.sv_message.specs.declared.request.RawRequest.{RawRequest}
use Rattle.sv_solo.specs.Table.{alone, node_of}
use Rattle.sv_solo.specs.Solo.{IsNew, IsHistory, solo_steps, view_of}
use Rattle.sv_connection.specs.Request.{request_of}
use Rattle.sv_solo.specs.Serve.{How, how, Sight, sight, IsDirected, IsServed}
use Rattle.sv_launch.specs.declared.stream.OnceFault.{OnceFault}
use Rattle.sv_host.specs.Secrets.{secret_of}
use Rattle.sv_launch.specs.declared.stream.OnceFault.TheVariants.{Input as InputFault, Output as OutputFault}

-- how the n-th request of a stream is served: under the number n, with the secret n
abbrev pub turn_of : ℕ → ℕ → How
turn_of now number = how (record { now = now; steady = now; secret = secret_of number }) number false

-- what the outcome of a call makes of the whole stream; none where another request is taken
abbrev pub ending : Outcome → Option (Result (Unit {0}) OnceFault)
ending Answered = None
ending (Parked head_only) = Some (Ok tt)
ending Closed = Some (Ok tt)
ending (Refused fault) = Some (Ok tt)
ending ReadFailed = Some (Err InputFault)
ending WriteFailed = Some (Err OutputFault)
ending Failed = Some (Ok tt)

-- so many requests in turn lead from the beginning of a stream to here, and after each another is taken
pub data Reaches {S : Type 0} (steps : S → Moment → Input → Result (List Output) StepFault → S → Type 0) (now : ℕ) (start : Sight S) : ℕ → Sight S
    → Type 0 where
  AtStart : Reaches steps now start 0 start
  Behind : (count : ℕ) (old new : Sight S) (served : Served) → Reaches steps now start count old → ending served.outcome ≡ None
      → IsServed steps (turn_of now (count + 1)) old new served → Reaches steps now start (count + 1) new

-- the last call, after which no request is taken; it says what is answered
pub record EndsWith {S : Type 0} (steps : S → Moment → Input → Result (List Output) StepFault → S → Type 0) (now count : ℕ) (old new : Sight S)
    (result : Result (Unit {0}) OnceFault) : Type 0 where
  pub served : Served
  pub call : IsServed steps (turn_of now (count + 1)) old new served
  pub stops : ending served.outcome ≡ Some result

-- all numbers of requests have been used
pub record IsSpent {S : Type 0} (count : ℕ) (old new : Sight S) (result : Result (Unit {0}) OnceFault) : Type 0 where
  pub all : count + 1 ≡ 2 ^ 64
  pub stays : new ≡ old
  pub answer : result ≡ Ok tt

-- a whole stream: requests in turn, and then the last call or the last number
pub record IsStream {S : Type 0} (steps : S → Moment → Input → Result (List Output) StepFault → S → Type 0) (now : ℕ) (start end : Sight S)
    (result : Result (Unit {0}) OnceFault) : Type 0 where
  pub count : ℕ
  pub last : Sight S
  pub reached : Reaches steps now start count last
  pub ends : EndsWith steps now count last end result ⊎ IsSpent count last end result

-- a stream that is being served by a Solo over an engine, after so many requests
pub record IsUnderway {E : Type 0} (meaning : E → EngineMeaning) (heard : E → List (List ℕ)) (engine : E) (now : ℕ)
    (to_come written : Option (List ℕ)) (count : ℕ) (at : Sight (Solo E)) : Type 0 where
  pub first : Solo E
  pub new : IsNew first engine
  pub reached : Reaches (solo_steps meaning heard) now (sight to_come written first false) count at

-- a stream was served by a Solo over an engine: from the bytes to come and those written before, to those after it.
-- Of the bytes that were read some are held and served by nobody.
pub record HasServed {E : Type 0} (meaning : E → EngineMeaning) (heard : E → List (List ℕ)) (engine : E) (now : ℕ)
    (to_come written left writes : Option (List ℕ)) (result : Result (Unit {0}) OnceFault) : Type 0 where
  pub first : Solo E
  pub new : IsNew first engine
  pub end : Sight (Solo E)
  pub held : List ℕ
  pub unread : end.unread ≡ prepend_known held left
  pub written_is : end.written ≡ writes
  pub stream : IsStream (solo_steps meaning heard) now (sight to_come written first false) end result

-- ---- the steps of a stream

-- the step by which a request that was read and not refused was served
abbrev pub directed_call : {S : Type 0} (steps : S → Moment → Input → Result (List Output) StepFault → S
    → Type 0) (how : How) (raw : RawRequest) (so sn : S) (wo wn : Option (List ℕ)) (closed : Bool) (served : Served)
    → IsDirected steps how raw so sn wo wn closed served → List Call
directed_call steps how raw so sn wo wn closed served (inl misdirected) = []
directed_call steps how raw so sn wo wn closed served (inr asked) =
    record { moment = how.moment; input = Ask how.token (request_of how.single raw asked.target); answer = asked.answered.answer } ∷ []

-- the step of one call of a connection; none where no request was taken, or its target was refused
abbrev pub call_in : {S : Type 0} (steps : S → Moment → Input → Result (List Output) StepFault → S → Type 0) (how : How) (old new : Sight S) (served : Served)
    → IsServed steps how old new served → List Call
call_in steps how old new served (inl idle) = []
call_in steps how old new served (inr taken) = directed_call steps how taken.raw old.site new.site old.written new.written new.closed served taken.directed

-- the steps of these requests in turn, and others after them
abbrev pub calls_to : {S : Type 0} (steps : S → Moment → Input → Result (List Output) StepFault → S
    → Type 0) (now : ℕ) (start : Sight S) (count : ℕ) (at : Sight S) → Reaches steps now start count at → List Call → List Call
calls_to steps now start count at AtStart behind = behind
calls_to steps now start count at (Behind before old new served reached more call) behind =
    calls_to steps now start before old reached (call_in steps (turn_of now (before + 1)) old new served call ++ behind)

-- the step of the last call
abbrev pub call_at_end : {S : Type 0} (steps : S → Moment → Input → Result (List Output) StepFault → S
    → Type 0) (now count : ℕ) (old new : Sight S) (result : Result (Unit {0}) OnceFault)
    → EndsWith steps now count old new result ⊎ IsSpent count old new result → List Call
call_at_end steps now count old new result (inl ends) = call_in steps (turn_of now (count + 1)) old new ends.served ends.call
call_at_end steps now count old new result (inr spent) = []

-- all steps of a stream, in turn
abbrev pub calls_of : {S : Type 0} (steps : S → Moment → Input → Result (List Output) StepFault → S
    → Type 0) (now : ℕ) (start end : Sight S) (result : Result (Unit {0}) OnceFault) → IsStream steps now start end result → List Call
calls_of steps now start end result stream =
    calls_to steps now start stream.count stream.last stream.reached (call_at_end steps now stream.count stream.last end result stream.ends)

-- the steps of the stream are a history of the node alone, in which each request has a token of its own; so the commits are a
-- run of one container whose sessions the node holds at the end, each answer is that container's reply, and no token is
-- served twice
pub record IsOneHistory {E : Type 0} (meaning : E → EngineMeaning) (heard : E → List (List ℕ)) (engine : E) (first end : Solo E)
    (calls : List Call) : Type 0 where
  pub history : IsHistory (meaning engine) (view_of meaning heard first) calls (view_of meaning heard end)
  pub distinct : AreDistinct (asked_of (trace_of (meaning engine) alone (node_of []) calls))
  pub container : IsOneContainer (meaning engine) (trace_of (meaning engine) alone (node_of []) calls) (active_at (view_of meaning heard end).node)
  pub acknowledged : IsAcknowledged (meaning engine) (trace_of (meaning engine) alone (node_of []) calls)
  pub once : IsServedOnce (trace_of (meaning engine) alone (node_of []) calls)
