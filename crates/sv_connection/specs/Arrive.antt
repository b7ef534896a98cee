-- What bytes bring that come after those that the reader of requests holds.
use Rattle.std.specs.Prelude.{◌≡◌, ℕ, List, ◌++◌, Option, Some, None, Result, Ok, Err, false}
use Rattle.sv_message.specs.Stream.{Stream}
use Rattle.sv_message.specs.Message.{IsMessage}
use Rattle.sv_message.specs.Fault.{HasNoMessage}
use Rattle.sv_message.specs.declared.fault.ReadFault.{ReadFault}
use Rattle.sv_message.specs.declared.request.RawRequest.{RawRequest}
use Rattle.sv_connection.specs.Receive.{StandsAt}

-- what bytes bring that were put after those that were read: no whole message yet, which is kept, or what then stands at the front
abbrev pub Brings : Stream → List ℕ → Result (Option RawRequest) ReadFault → Stream → Type 0
Brings old piece (Ok None) new = HasNoMessage (old.rest ++ piece) × (new.rest ≡ old.rest ++ piece) × (new.closed ≡ false)
Brings old piece (Ok (Some raw)) new = (text : List ℕ) × IsMessage text raw × (old.rest ++ piece ≡ text ++ new.rest) × (new.closed ≡ false)
Brings old piece (Err fault) new = StandsAt (Some (old.rest ++ piece)) fault
