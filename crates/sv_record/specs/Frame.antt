-- A frame on a connection: a first byte, four bytes of length, and so many bytes of payload.
use Rattle.std.specs.Prelude.{◌≡◌, ◌<◌, ◌^◌, ◌≤◌, ◌⊎◌, ℕ, ◌+◌, Option, Some, None, List, []}
use Rattle.std.specs.Prelude.{◌∷◌, ◌++◌, length, take, drop, Result, Ok, Err, nat_lt, ◌==◌, ◌||◌, if◌then◌else◌}
use Rattle.std.specs.Int.{w8, w32, to_be_bytes, from_be_bytes}
use Rattle.sv_model.specs.Keys.{IsNode, IsKey}
use Rattle.sv_model.specs.Ranges.{IsPacket}
use Rattle.sv_record.specs.declared.fault.RecordFault.{RecordFault}
use Rattle.sv_record.specs.declared.fault.RecordFault.TheVariants.{Foreign, BadField}
use Rattle.sv_record.specs.declared.frame.Frame.{Frame}
use Rattle.sv_record.specs.declared.frame.Frame.TheVariants.{Peer, Move, Tick, Halt}
use Rattle.sv_record.specs.declared.frame.TheConstants.{PEER, CONTROL, PAYLOAD_LIMIT}
use Rattle.sv_record.specs.declared.version.Version.{Version}
use Rattle.sv_record.specs.declared.version.Version.TheVariants.{Two}
use Rattle.sv_record.specs.Version.{IsSpelled}
use Rattle.sv_record.specs.Reading.{◌>>=◌, number_at, ended}
use Rattle.sv_record.specs.Format.{ByKind, nothing, pair, kind_at, no_kind}
use Rattle.sv_record.specs.Field.{node, key}
use Rattle.sv_record.specs.Packet as packet

-- a first byte, the length, and a payload, whatever it is
abbrev pub envelope : ℕ → List ℕ → List ℕ
envelope first payload = first ∷ to_be_bytes w32 (length payload) ++ payload

-- the first byte says what the payload is
abbrev pub first_of : Frame → ℕ
first_of (Peer p) = PEER
first_of (Move k to) = CONTROL
first_of Tick = CONTROL
first_of Halt = CONTROL

-- a packet by a version, or the kind of a command and its fields
abbrev pub payload_by : Version → Frame → List ℕ
payload_by v (Peer p) = packet.spelling_by v p
payload_by v (Move k to) = 1 ∷ (pair key node).text (k, to)
payload_by v Tick = 2 ∷ []
payload_by v Halt = 3 ∷ []

-- the bytes of a frame by a version
abbrev pub spelling_by : Version → Frame → List ℕ
spelling_by v frame = envelope (first_of frame) (payload_by v frame)

-- the frames that a version spells
abbrev pub HasSpellingBy : Version → Frame → Type 0
HasSpellingBy v (Peer p) = packet.HasSpellingBy v p
HasSpellingBy v (Move k to) = (pair key node).Fits (k, to)
HasSpellingBy v Tick = Unit {0}
HasSpellingBy v Halt = Unit {0}

-- bytes are a spelling of a frame
abbrev pub IsSpelling : List ℕ → Frame → Type 0
IsSpelling = IsSpelled HasSpellingBy spelling_by

-- a payload and the bytes of a frame as they are written: by version 2
abbrev pub payload_of : Frame → List ℕ
payload_of = payload_by Two

abbrev pub spelling : Frame → List ℕ
spelling = spelling_by Two

-- the frames that may be written so
abbrev pub HasSpelling : Frame → Type 0
HasSpelling = HasSpellingBy Two

-- a frame that may be written
abbrev pub IsFrame : Frame → Type 0
IsFrame (Peer p) = IsPacket p
IsFrame (Move k to) = IsKey k × IsNode to
IsFrame Tick = Unit {0}
IsFrame Halt = Unit {0}

-- reading a command's fields; another kind is foreign
abbrev pub command_by_kind : ByKind Frame
command_by_kind =
    kind_at 1 (pair key node) (λ x. Move x.0 x.1) (
    kind_at 2 nothing (λ _. Tick) (
    kind_at 3 nothing (λ _. Halt) (
    no_kind Foreign)))

-- the command that all of a payload is
unfoldable pub command_at : List ℕ → Result Frame RecordFault
command_at payload = number_at w8 payload >>= λ kind. command_by_kind kind.0 kind.1 >>= ended

-- what all of a payload is after this first byte
unfoldable pub payload_at : ℕ → List ℕ → Result Frame RecordFault
payload_at first payload = if first == PEER then (packet.packet_of payload >>= λ p. Ok (Peer p)) else command_at payload

-- a payload of so many bytes, where all of it is there
abbrev pub so_many_at : ℕ → List ℕ → Result (Option (List ℕ)) RecordFault
so_many_at n bytes =
    if nat_lt PAYLOAD_LIMIT n then Err BadField
    else if nat_lt (length bytes) n then Ok None
    else Ok (Some (take n bytes))

-- a length and the payload, where all of both is there
unfoldable pub sized_at : List ℕ → Result (Option (List ℕ)) RecordFault
sized_at bytes =
    if nat_lt (length bytes) 4 then Ok None
    else so_many_at (from_be_bytes w32 (take 4 bytes)) (drop 4 bytes)

-- a payload's frame and the bytes that it takes, and none where there is no whole payload
abbrev pub taken_at : ℕ → Option (List ℕ) → Result (Option (Frame × ℕ)) RecordFault
taken_at first None = Ok None
taken_at first (Some payload) = payload_at first payload >>= λ frame. Ok (Some (frame, 5 + length payload))

-- the first frame and the bytes that it takes, and none where there are too few
unfoldable pub frame_at : List ℕ → Result (Option (Frame × ℕ)) RecordFault
frame_at [] = Ok None
frame_at (first ∷ bytes) = if first == PEER || first == CONTROL then (sized_at bytes >>= taken_at first) else Err Foreign

-- The bytes end before a payload does, whatever that is: something is missing. The first byte is one that a frame has,
-- and the length is within the limit, where they are there.
pub record IsFront (bytes : List ℕ) : Type 0 where
  pub first : ℕ
  pub payload : List ℕ
  pub missing : List ℕ
  pub known : (first ≡ PEER) ⊎ (first ≡ CONTROL)
  pub within : 5 ≤ length bytes → length payload ≤ PAYLOAD_LIMIT
  pub short : length payload < 2 ^ 32
  pub some : 0 < length missing
  pub front : bytes ++ missing ≡ envelope first payload
