-- The packets between nodes: the version, the kind, the sender, the addressee and the fields.
use Rattle.std.specs.Prelude.{ℕ, List, Result}
use Rattle.sv_model.specs.declared.key.Key.{Key}
use Rattle.sv_model.specs.declared.session.Session.{Session}
use Rattle.sv_model.specs.declared.packet.Packet.{Packet}
use Rattle.sv_model.specs.declared.packet.Packet.TheVariants.{Want, Grant, Ack, No}
use Rattle.sv_record.specs.declared.fault.RecordFault.{RecordFault}
use Rattle.sv_record.specs.declared.fault.RecordFault.TheVariants.{Foreign}
use Rattle.sv_record.specs.declared.version.Version.{Version}
use Rattle.sv_record.specs.declared.version.Version.TheVariants.{Two}
use Rattle.sv_record.specs.Format.{Format, ByKind, pair, kind_at, no_kind, tagged}
use Rattle.sv_record.specs.Field.{long, counting, node, key}
use Rattle.sv_record.specs.Session.{session}
use Rattle.sv_record.specs.Version.{IsSpelled, spelled, fits, whole}

-- the sender and the addressee
abbrev pub ends : Format (ℕ × ℕ)
ends = pair node node

-- the key that is wanted, the boot, and the number of the want since then
abbrev pub errand : Format (Key × (ℕ × ℕ))
errand = pair key (pair long long)

-- a want and its answer
abbrev pub asked : Format ((ℕ × ℕ) × (Key × (ℕ × ℕ)))
asked = pair ends errand

-- a session that is handed over, and its epoch
abbrev pub granted : Version → Format ((ℕ × ℕ) × (Key × (ℕ × Session)))
granted v = pair ends (pair key (pair counting (session v)))

-- a session that was taken, and its epoch
abbrev pub acknowledged : Format ((ℕ × ℕ) × (Key × ℕ))
acknowledged = pair ends (pair key counting)

-- the kinds of packets
abbrev pub kind_of : Packet → ℕ
kind_of (Want from to k boot want) = 1
kind_of (Grant from to k e s) = 2
kind_of (Ack from to k e) = 3
kind_of (No from to k boot want) = 4

-- what stands after the kind
abbrev pub fields : Version → Packet → List ℕ
fields v (Want from to k boot want) = asked.text ((from, to), (k, (boot, want)))
fields v (Grant from to k e s) = (granted v).text ((from, to), (k, (e, s)))
fields v (Ack from to k e) = acknowledged.text ((from, to), (k, e))
fields v (No from to k boot want) = asked.text ((from, to), (k, (boot, want)))

-- the packets whose fields have a spelling
abbrev pub FieldsFit : Version → Packet → Type 0
FieldsFit v (Want from to k boot want) = asked.Fits ((from, to), (k, (boot, want)))
FieldsFit v (Grant from to k e s) = (granted v).Fits ((from, to), (k, (e, s)))
FieldsFit v (Ack from to k e) = acknowledged.Fits ((from, to), (k, e))
FieldsFit v (No from to k boot want) = asked.Fits ((from, to), (k, (boot, want)))

-- reading the fields; another kind is foreign
abbrev pub by_kind : Version → ByKind Packet
by_kind v =
    kind_at 1 asked (λ x. Want x.0.0 x.0.1 x.1.0 x.1.1.0 x.1.1.1) (
    kind_at 2 (granted v) (λ x. Grant x.0.0 x.0.1 x.1.0 x.1.1.0 x.1.1.1) (
    kind_at 3 acknowledged (λ x. Ack x.0.0 x.0.1 x.1.0 x.1.1) (
    kind_at 4 asked (λ x. No x.0.0 x.0.1 x.1.0 x.1.1.0 x.1.1.1) (
    no_kind Foreign))))

-- a packet after its version
unfoldable pub packet_format : Version → Format Packet
packet_format v = tagged kind_of (fields v) (FieldsFit v) (by_kind v)

-- the bytes of a packet by a version
abbrev pub spelling_by : Version → Packet → List ℕ
spelling_by = spelled packet_format

-- the packets that a version spells
abbrev pub HasSpellingBy : Version → Packet → Type 0
HasSpellingBy = fits packet_format

-- bytes are a spelling of a packet
abbrev pub IsSpelling : List ℕ → Packet → Type 0
IsSpelling = IsSpelled HasSpellingBy spelling_by

-- the bytes of a packet as it is written: by version 2
abbrev pub spelling : Packet → List ℕ
spelling = spelling_by Two

-- the packets that may be written so
abbrev pub HasSpelling : Packet → Type 0
HasSpelling = HasSpellingBy Two

-- the packet that all of the bytes are, or the first trouble
abbrev pub packet_of : List ℕ → Result Packet RecordFault
packet_of = whole packet_format
