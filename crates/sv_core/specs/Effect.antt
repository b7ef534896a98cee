-- What has to be left for a record to be taken.
use Rattle.std.specs.Prelude.{◌≢◌, ℕ, ⊤}
use Rattle.sv_model.specs.declared.record.Change.{Change}
use Rattle.sv_model.specs.declared.record.Change.TheVariants.{Absent as Unchanged, Alive as ChangeAlive, Ended as ChangeEnded}
use Rattle.sv_model.specs.declared.record.Record.{Record}
use Rattle.sv_model.specs.declared.record.Record.TheVariants.{Boot, Commit, Expired, Sent, Taken, Gone, State, Counters, Forgets, Counted}
use Rattle.sv_model.specs.NodeState.{last_number}

abbrev pub LeavesSerial : Change → ℕ → Type 0
LeavesSerial Unchanged next = ⊤
LeavesSerial (ChangeAlive k s) next = next ≢ last_number
LeavesSerial (ChangeEnded k) next = next ≢ last_number

-- a session that was made had a serial
abbrev pub HasSerial : Record → ℕ → Type 0
HasSerial (Boot boot) next = ⊤
HasSerial (Commit named born) next = LeavesSerial born next
HasSerial (Expired k) next = ⊤
HasSerial (Sent k e to s) next = ⊤
HasSerial (Taken k e from s) next = ⊤
HasSerial (Gone k e) next = ⊤
HasSerial (State k st) next = ⊤
HasSerial (Counters boot n) next = ⊤
HasSerial (Forgets home boot) next = ⊤
HasSerial (Counted home boot n) next = ⊤
