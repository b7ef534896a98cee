-- What the reads of one call make of the unread bytes: those that a connection holds, and after them those that are to come.
use Rattle.std.specs.Prelude.{◌≡◌, ◌⊎◌, ℕ, List, Bool, true, false, Option, Some, None, IfSome, ⊤}
use Rattle.std.specs.Io.KnownBytes.{Keeps}
use Rattle.sv_message.specs.Fault.{HasNoMessage}
use Rattle.sv_connection.specs.declared.received.Received.{Received}
use Rattle.sv_connection.specs.declared.received.Received.TheVariants.{Request, Refused, More, Closed}
use Rattle.sv_connection.specs.Receive.{Stand, GivesRequest, IsRefused, Receives}
use Rattle.sv_solo.specs.declared.reading.Arrived.{Arrived}
use Rattle.sv_solo.specs.declared.reading.Arrived.TheVariants.{Request as Asked, Refused as Faulty, End, Broken}

-- what is given of the bytes that have come, if nothing more comes: less than a message is then nothing
abbrev pub Ends : Bool → Stand → Stand → Received → Type 0
Ends single old new (Request request) = Receives single old new (Request request)
Ends single old new (Refused fault head_only) = Receives single old new (Refused fault head_only)
Ends single old new More = ⊥
Ends single old new Closed = ((old.closed ≡ true) ⊎ IfSome old.unread HasNoMessage) × (new.closed ≡ true)

-- one read; if the bytes to come aren't known, nothing is said of them, and nothing at all if the reader fails
abbrev pub Hears : Bool → Option (List ℕ) → Option (List ℕ) → Bool → Option Received → Type 0
Hears single old new closed (Some (Request request)) = (closed ≡ false) × GivesRequest single old new request
Hears single old new closed (Some (Refused fault head_only)) = (closed ≡ true) × IsRefused old new fault head_only
Hears single old new closed (Some More) = (closed ≡ false) × Keeps old new
Hears single old new closed (Some Closed) = (closed ≡ true) × IfSome old HasNoMessage
Hears single old new closed None = ⊤

-- the reads of one call
abbrev pub Arrives : Bool → Option (List ℕ) → Option (List ℕ) → Bool → Arrived → Type 0
Arrives single old new closed (Asked request) = (closed ≡ false) × GivesRequest single old new request
Arrives single old new closed (Faulty fault head_only) = (closed ≡ true) × IsRefused old new fault head_only
Arrives single old new closed End = (closed ≡ true) × IfSome old HasNoMessage
Arrives single old new closed Broken = closed ≡ true

-- a request was taken
abbrev pub is_asked : Arrived → Bool
is_asked (Asked request) = true
is_asked (Faulty fault head_only) = false
is_asked End = false
is_asked Broken = false
