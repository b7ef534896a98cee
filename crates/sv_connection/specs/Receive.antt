-- What a connection makes of the bytes that have come on it, whoever is asked what it gives.
use Rattle.std.specs.Prelude.{◌≡◌, ◌≢◌, ◌⊎◌, ℕ, List, Bool, true, false, Option, Some, IfSome, codes, ⊤}
use Rattle.std.specs.Io.KnownBytes.{Consumes, Keeps}
use Rattle.sv_model.specs.Method.{is_head}
use Rattle.sv_model.specs.declared.request.Request.{Request as RequestValue}
use Rattle.sv_message.specs.Message.{IsMessage}
use Rattle.sv_message.specs.Fault.{IsFaultAt, HasNoMessage}
use Rattle.sv_message.specs.Calls.{BeginsNoMessage, IsHeadFault, MayStandUnseen}
use Rattle.sv_message.specs.declared.fault.ReadFault.{ReadFault}
use Rattle.sv_message.specs.declared.request.RawRequest.{RawRequest}
use Rattle.sv_message.specs.declared.fault.ReadFault.TheVariants.{BadHead, HeadTooLong, BadHost, BadFraming, BodyTooLong}
use Rattle.sv_message.specs.declared.fault.ReadFault.TheVariants.{Coding, Expectation, Memory, Closed as ReaderClosed}
use Rattle.sv_target.specs.declared.fault.TargetFault.{TargetFault}
use Rattle.sv_target.specs.declared.target.Target.{Target as TargetValue}
use Rattle.sv_target.specs.Target.{IsTarget}
use Rattle.sv_connection.specs.declared.outcome.RequestFault.{RequestFault}
use Rattle.sv_connection.specs.declared.outcome.RequestFault.TheVariants.{Read, Target}
use Rattle.sv_connection.specs.declared.received.Received.{Received}
use Rattle.sv_connection.specs.declared.received.Received.TheVariants.{Request, Refused, More, Closed}
use Rattle.sv_connection.specs.Request.{request_of, HasTargetFault}

-- what a call sees of a connection: the bytes that were not taken yet, and whether it is closed
pub record Stand : Type 0 where
  pub unread : Option (List ℕ)
  pub closed : Bool

abbrev pub stand : Option (List ℕ) → Bool → Stand
stand unread closed = record { unread = unread; closed = closed }

-- a message was taken from the front, and this is the request that it says
pub record GivesRequest (single : Bool) (old new : Option (List ℕ)) (request : RequestValue) : Type 0 where
  pub raw : RawRequest
  pub text : List ℕ
  pub message : IsMessage text raw
  pub taken : Consumes old new text
  pub target : TargetValue
  pub read : IsTarget raw.target target
  pub method : raw.method ≢ codes "CONNECT"
  pub says : request ≡ request_of single raw target

-- a message was taken from the front, and its method and target have a fault, or there was no memory for them
pub record GivesFault (old new : Option (List ℕ)) (fault : TargetFault) (head_only : Bool) : Type 0 where
  pub raw : RawRequest
  pub text : List ℕ
  pub message : IsMessage text raw
  pub taken : Consumes old new text
  pub has_fault : HasTargetFault raw fault
  pub without_body : head_only ≡ is_head raw.method

-- the target of a message was read, and this is the request that the message says
pub record IsRead (single : Bool) (raw : RawRequest) (request : RequestValue) : Type 0 where
  pub target : TargetValue
  pub read : IsTarget raw.target target
  pub says : request ≡ request_of single raw target

-- what a message leads to by its target
abbrev pub IsDirected : Bool → RawRequest → Bool → Received → Type 0
IsDirected single raw closed (Request request) = (closed ≡ false) × (raw.method ≢ codes "CONNECT") × IsRead single raw request
IsDirected single raw closed (Refused (Read fault) head_only) = ⊥
IsDirected single raw closed (Refused (Target fault) head_only) = (closed ≡ true) × HasTargetFault raw fault × (head_only ≡ is_head raw.method)
IsDirected single raw closed More = ⊥
IsDirected single raw closed Closed = ⊥

-- the fault stands at the front of the unread bytes; want of memory stands nowhere
abbrev pub StandsAt : Option (List ℕ) → ReadFault → Type 0
StandsAt unread BadHead = IfSome unread (λ xs. IsFaultAt xs BadHead)
StandsAt unread HeadTooLong = IfSome unread (λ xs. IsFaultAt xs HeadTooLong)
StandsAt unread BadHost = IfSome unread (λ xs. IsFaultAt xs BadHost)
StandsAt unread BadFraming = IfSome unread (λ xs. IsFaultAt xs BadFraming)
StandsAt unread BodyTooLong = IfSome unread (λ xs. IsFaultAt xs BodyTooLong)
StandsAt unread Coding = IfSome unread (λ xs. IsFaultAt xs Coding)
StandsAt unread Expectation = IfSome unread (λ xs. IsFaultAt xs Expectation)
StandsAt unread Memory = ⊤
StandsAt unread ReaderClosed = ⊥

-- where the fault is: the reader's stands at the front, a target's in the message that was taken from there
abbrev pub IsRefused : Option (List ℕ) → Option (List ℕ) → RequestFault → Bool → Type 0
IsRefused old new (Read fault) head_only = (head_only ≡ false) × StandsAt old fault
IsRefused old new (Target fault) head_only = GivesFault old new fault head_only

-- what is given of the bytes that have come
abbrev pub Receives : Bool → Stand → Stand → Received → Type 0
Receives single old new (Request request) = (old.closed ≡ false) × (new.closed ≡ false) × GivesRequest single old.unread new.unread request
Receives single old new (Refused fault head_only) = (old.closed ≡ false) × (new.closed ≡ true) × IsRefused old.unread new.unread fault head_only
Receives single old new More = (old.closed ≡ false) × (new.closed ≡ false) × IfSome old.unread HasNoMessage × Keeps old.unread new.unread
Receives single old new Closed = (old.closed ≡ true) × (new.closed ≡ true)

-- this request's message stands at the front: it is given, or the fault of its target, unless memory is refused
abbrev pub IsFound : Bool → RawRequest → Received → Type 0
IsFound single raw (Request request) = IsRead single raw request
IsFound single raw (Refused (Read Memory) head_only) = ⊤
IsFound single raw (Refused (Read other) head_only) = ⊥
IsFound single raw (Refused (Target fault) head_only) = HasTargetFault raw fault
IsFound single raw More = ⊥
IsFound single raw Closed = ⊥

-- this fault stands at the front: it is met, or the other of a head's two, unless memory is refused or the reader doesn't see it yet
abbrev pub IsMet : List ℕ → ReadFault → Received → Type 0
IsMet s fault (Request request) = ⊥
IsMet s fault (Refused (Read given) head_only) = (given ≡ Memory) ⊎ ((fault ≡ given) ⊎ (IsHeadFault fault × IsHeadFault given))
IsMet s fault (Refused (Target given) head_only) = ⊥
IsMet s fault More = MayStandUnseen s fault
IsMet s fault Closed = ⊥

-- a fault that stands at the front of what has come to an open connection is met
abbrev pub MeetsFaults : Type 0
MeetsFaults =
    (single : Bool) (old new : Stand) (s : List ℕ) (fault : ReadFault) (given : Received) → old.closed ≡ false → old.unread ≡ Some s → IsFaultAt s fault
    → Receives single old new given
    → IsMet s fault given

-- where less than a request is received, no prefix of what has come is a message
abbrev pub HoldsNoMessage : Type 0
HoldsNoMessage = (single : Bool) (old new : Stand) (s : List ℕ) → old.unread ≡ Some s → Receives single old new More → BeginsNoMessage s

-- a request was taken
abbrev pub is_request : Received → Bool
is_request (Request request) = true
is_request (Refused fault head_only) = false
is_request More = false
is_request Closed = false

-- a message was taken
abbrev pub is_taken : Received → Bool
is_taken (Request request) = true
is_taken (Refused (Read fault) head_only) = false
is_taken (Refused (Target fault) head_only) = true
is_taken More = false
is_taken Closed = false
