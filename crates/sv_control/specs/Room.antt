-- How full a node's table of keys is, and of what.
use Rattle.std.specs.Prelude.{◌≤◌, ◌*◌, ◌-◌, ℕ, List, [], ◌∷◌, ◌++◌, length, codes, decimal}
use Rattle.std.specs.List.{concat}
use Rattle.sv_model.specs.declared.record.Record.{Record}
use Rattle.sv_core.specs.declared.census.Census.{Census}
use Rattle.sv_control.specs.declared.room.KeyRoom.{KeyRoom}
use Rattle.sv_control.specs.declared.room.KeysLine.{KeysLine}

-- how many keys are known by a snapshot: a record each, after the first
abbrev pub known_in : List Record → ℕ
known_in records = length records - 1

-- four fifths of the keys, or more
abbrev pub IsScarce : KeyRoom → Type 0
IsScarce room = 4 * room.limit ≤ 5 * room.known

-- all of them
abbrev pub IsFull : KeyRoom → Type 0
IsFull room = room.limit ≤ room.known

abbrev pub room_text : KeyRoom → List ℕ
room_text room = decimal room.known ++ codes " of " ++ decimal room.limit ++ codes " keys are known"

-- what is to be seen of the keys of a snapshot, which are counted so by what is known of them, at a node that may know so many; of one
-- that knows more none are left
abbrev pub keys_to_see : List Record → Census → ℕ → KeysLine
keys_to_see records census limit =
    record {
      known = known_in records;
      limit = limit;
      left = limit - known_in records;
      active = census.active;
      sent = census.sent;
      gone = census.gone;
      ended = census.ended;
    }

-- how full the table is by such a line
abbrev pub room_of : KeysLine → KeyRoom
room_of line = record { known = line.known; limit = line.limit }

abbrev pub keys_text : KeysLine → List ℕ
keys_text line =
    concat (room_text (room_of line) ∷ codes ": " ∷ decimal line.active ∷ codes " active, " ∷ decimal line.sent ∷ codes " sent, " ∷ decimal line.gone
    ∷ codes " gone, " ∷ decimal line.ended ∷ codes " ended; " ∷ decimal line.left ∷ codes " are left" ∷ [])
