-- What is within the limits of a version: it is this that a version spells, of all that may be written.
use Rattle.std.specs.Prelude.{◌≤◌, ℕ, length, All}
use Rattle.sv_model.specs.Attributes.{attributes_size}
use Rattle.sv_model.specs.declared.session.Session.{Session}
use Rattle.sv_model.specs.declared.state.KeyState.{KeyState}
use Rattle.sv_model.specs.declared.state.KeyState.TheVariants as kept
use Rattle.sv_model.specs.declared.record.Change.{Change}
use Rattle.sv_model.specs.declared.record.Change.TheVariants.{Absent, Alive, Ended}
use Rattle.sv_model.specs.declared.record.Record.{Record}
use Rattle.sv_model.specs.declared.record.Record.TheVariants.{Boot, Commit, Expired, Sent, Taken, Gone, State, Counters, Forgets, Counted}
use Rattle.sv_model.specs.declared.packet.Packet.{Packet}
use Rattle.sv_model.specs.declared.packet.Packet.TheVariants.{Want, Grant, Ack, No}
use Rattle.sv_record.specs.declared.version.Version.{Version}
use Rattle.sv_record.specs.Version.{value_limit, session_limit}

-- a session's values, and its names and values in all
pub record IsWithin (v : Version) (s : Session) : Type 0 where
  pub values : All (λ a. length a.1 ≤ value_limit v) s.attributes
  pub size : attributes_size s.attributes ≤ session_limit v

-- the session of a change, if it has one
abbrev pub IsChangeWithin : Version → Change → Type 0
IsChangeWithin v Absent = Unit {0}
IsChangeWithin v (Alive k s) = IsWithin v s
IsChangeWithin v (Ended k) = Unit {0}

-- the session that a node keeps, if there is one
abbrev pub IsStateWithin : Version → KeyState → Type 0
IsStateWithin v (kept.Active e s) = IsWithin v s
IsStateWithin v (kept.Sent e s to) = IsWithin v s
IsStateWithin v (kept.Gone e) = Unit {0}
IsStateWithin v (kept.Ended e) = Unit {0}

-- the sessions of a record
abbrev pub IsRecordWithin : Version → Record → Type 0
IsRecordWithin v (Boot b) = Unit {0}
IsRecordWithin v (Commit named born) = IsChangeWithin v named × IsChangeWithin v born
IsRecordWithin v (Expired k) = Unit {0}
IsRecordWithin v (Sent k e to s) = IsWithin v s
IsRecordWithin v (Taken k e from s) = IsWithin v s
IsRecordWithin v (Gone k e) = Unit {0}
IsRecordWithin v (State k s) = IsStateWithin v s
IsRecordWithin v (Counters b next) = Unit {0}
IsRecordWithin v (Forgets home b) = Unit {0}
IsRecordWithin v (Counted home b next) = Unit {0}

-- the session of a packet, if it has one
abbrev pub IsPacketWithin : Version → Packet → Type 0
IsPacketWithin v (Want from to k boot want) = Unit {0}
IsPacketWithin v (Grant from to k e s) = IsWithin v s
IsPacketWithin v (Ack from to k e) = Unit {0}
IsPacketWithin v (No from to k boot want) = Unit {0}
