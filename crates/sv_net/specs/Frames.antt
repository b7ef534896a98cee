-- The first frame of what has come on a connection.
use Rattle.std.specs.Prelude.{ℕ, List, drop, Option, Some, None, Result, Ok, Err}
use Rattle.sv_record.specs.declared.fault.RecordFault.{RecordFault}
use Rattle.sv_record.specs.declared.frame.Frame.{Frame}
use Rattle.sv_record.specs.Frame.{frame_at}
use Rattle.sv_record.specs.Reading.{◌>>=◌}

-- a frame without the number of bytes that it takes
abbrev pub alone : Option (Frame × ℕ) → Option Frame
alone None = None
alone (Some x) = Some x.0

-- the first frame of these bytes, and none where it isn't whole yet
abbrev pub first_frame : List ℕ → Result (Option Frame) RecordFault
first_frame bytes = frame_at bytes >>= λ o. Ok (alone o)

-- what stands after the first frame; all of it where that isn't whole yet
abbrev pub left_by : List ℕ → Result (Option (Frame × ℕ)) RecordFault → List ℕ
left_by bytes (Ok None) = bytes
left_by bytes (Ok (Some x)) = drop x.1 bytes
left_by bytes (Err fault) = bytes

abbrev pub behind_first : List ℕ → List ℕ
behind_first bytes = left_by bytes (frame_at bytes)
