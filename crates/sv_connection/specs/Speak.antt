-- What is written on a connection: a response, or what stands in its place where memory is refused.
use Rattle.std.specs.Prelude.{◌≡◌, ◌⊎◌, ℕ, ◌||◌, ◌++◌, List, [], Bool, true, Option, Some, None, codes}
use Rattle.std.specs.Io.KnownBytes.{Appends}
use Rattle.sv_model.specs.declared.response.Response.{Response}
use Rattle.sv_model.specs.Page.{plain_page}
use Rattle.sv_message.specs.Response.{IsResponseText}
use Rattle.sv_message.specs.declared.fault.ReadFault.{ReadFault}
use Rattle.sv_message.specs.declared.fault.ReadFault.TheVariants.{BadHead, HeadTooLong, BadHost, BadFraming, BodyTooLong}
use Rattle.sv_message.specs.declared.fault.ReadFault.TheVariants.{Coding, Expectation, Memory, Closed as ReaderClosed}
use Rattle.sv_target.specs.declared.fault.TargetFault.{TargetFault}
use Rattle.sv_target.specs.declared.fault.TargetFault.TheVariants.{Connect, BadTarget, Memory as TargetMemory}
use Rattle.sv_connection.specs.declared.outcome.RequestFault.{RequestFault}
use Rattle.sv_connection.specs.declared.outcome.RequestFault.TheVariants.{Read, Target}
use Rattle.sv_connection.specs.declared.outcome.Outcome.{Outcome}
use Rattle.sv_connection.specs.declared.outcome.Outcome.TheVariants.{Answered, Refused, WriteFailed}

-- what is written where memory is refused in reading a request or in making a text
unfoldable pub memory_lines : List ℕ
memory_lines = codes "HTTP/1.1 503 Service Unavailable\r\nContent-Length: 0\r\nConnection: close\r\n\r\n"

-- the front of a text was written, and this is left of it
abbrev pub AppendsPart : Option (List ℕ) → Option (List ℕ) → List ℕ → List ℕ → Type 0
AppendsPart wo wn text rest = (front : List ℕ) × (text ≡ front ++ rest) × Appends wo wn front

-- what has gone out of a text is its front: its first bytes, however many, and nothing else
abbrev pub AppendsFront : Option (List ℕ) → Option (List ℕ) → List ℕ → Type 0
AppendsFront wo wn text = (rest : List ℕ) × AppendsPart wo wn text rest

-- a text was written whole, or the writing failed after its front
abbrev pub IsWritten : List ℕ → Outcome → Bool → Option (List ℕ) → Option (List ℕ) → Bool → Outcome → Type 0
IsWritten text done closes wo wn closed outcome =
    ((outcome ≡ done) × Appends wo wn text × (closed ≡ closes)) ⊎ ((outcome ≡ WriteFailed) × (closed ≡ true) × AppendsFront wo wn text)

-- memory was refused, and that was written
abbrev pub IsStarved : Option (List ℕ) → Option (List ℕ) → Bool → Outcome → Type 0
IsStarved wo wn closed outcome = IsWritten memory_lines (Refused (Read Memory)) true wo wn closed outcome

-- the text of a response was written, or there was no memory for it
abbrev pub IsSaid : Response → ℕ → Outcome → Option (List ℕ) → Option (List ℕ) → Bool → Outcome → Type 0
IsSaid response now done wo wn closed outcome =
    ((text : List ℕ) × IsResponseText response now text × IsWritten text done response.close wo wn closed outcome) ⊎ IsStarved wo wn closed outcome

-- the response to a request that waited was written, or there was no memory for it; a connection that was closed stays so
abbrev pub IsLateAnswer : Response → ℕ → Bool → Option (List ℕ) → Option (List ℕ) → Bool → Outcome → Type 0
IsLateAnswer response now was_closed wo wn closed outcome =
    (closes : Bool) × IsSaid response now Answered wo wn closes outcome × (closed ≡ (was_closed || closes))

-- the status of a fault's page (RFC 9110, section 15; RFC 6585, section 5)
abbrev pub status_of_read : ReadFault → Option ℕ
status_of_read BadHead = Some 400
status_of_read HeadTooLong = Some 431
status_of_read BadHost = Some 400
status_of_read BadFraming = Some 400
status_of_read BodyTooLong = Some 413
status_of_read Coding = Some 501
status_of_read Expectation = Some 417
status_of_read Memory = None
status_of_read ReaderClosed = None

abbrev pub status_of_target : TargetFault → Option ℕ
status_of_target Connect = Some 501
status_of_target BadTarget = Some 400
status_of_target TargetMemory = None

abbrev pub status_of : RequestFault → Option ℕ
status_of (Read fault) = status_of_read fault
status_of (Target fault) = status_of_target fault

-- the plain page of a fault was written, and the connection closes; without one that memory was refused
abbrev pub IsPage : Option ℕ → Bool → ℕ → RequestFault → Option (List ℕ) → Option (List ℕ) → Bool → Outcome → Type 0
IsPage (Some status) head_only now fault wo wn closed outcome = IsSaid (plain_page status [] head_only true) now (Refused fault) wo wn closed outcome
IsPage None head_only now fault wo wn closed outcome = IsStarved wo wn closed outcome
