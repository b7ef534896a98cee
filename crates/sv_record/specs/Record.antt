-- The records of a journal: the version, the kind and the fields.
use Rattle.std.specs.Prelude.{ℕ, not, List, [], Result, ◌&&◌}
use Rattle.sv_model.specs.declared.key.Key.{Key}
use Rattle.sv_model.specs.declared.session.Session.{Session}
use Rattle.sv_model.specs.declared.state.KeyState.{KeyState}
use Rattle.sv_model.specs.declared.state.KeyState.TheVariants as kept
use Rattle.sv_model.specs.declared.record.Change.{Change}
use Rattle.sv_model.specs.declared.record.Change.TheVariants.{Absent, Alive, Ended}
use Rattle.sv_model.specs.declared.record.Record.{Record}
use Rattle.sv_model.specs.declared.record.Record.TheVariants.{Boot, Commit, Expired, Sent, Taken, Gone, State, Counters, Forgets, Counted}
use Rattle.sv_model.specs.Ranges.{is_absent}
use Rattle.sv_record.specs.declared.fault.RecordFault.{RecordFault}
use Rattle.sv_record.specs.declared.fault.RecordFault.TheVariants.{Foreign, BadField}
use Rattle.sv_record.specs.declared.version.Version.{Version}
use Rattle.sv_record.specs.declared.version.Version.TheVariants.{Two}
use Rattle.sv_record.specs.Format.{Format, ByKind, nothing, pair, such_that, kind_at, no_kind, tagged}
use Rattle.sv_record.specs.Field.{long, counting, node, key}
use Rattle.sv_record.specs.Session.{session}
use Rattle.sv_record.specs.Version.{IsSpelled, spelled, fits, whole}

-- what a commit makes of a key: 0 for nothing, 1 and the session, or 2 for its end
abbrev pub kind_of_change : Change → ℕ
kind_of_change Absent = 0
kind_of_change (Alive k s) = 1
kind_of_change (Ended k) = 2

-- what stands after that kind
abbrev pub change_fields : Version → Change → List ℕ
change_fields v Absent = []
change_fields v (Alive k s) = (pair key (session v)).text (k, s)
change_fields v (Ended k) = key.text k

-- the changes whose fields have a spelling
abbrev pub ChangeFits : Version → Change → Type 0
ChangeFits v Absent = Unit {0}
ChangeFits v (Alive k s) = (pair key (session v)).Fits (k, s)
ChangeFits v (Ended k) = key.Fits k

-- reading them; another kind is a field out of its range
abbrev pub change_by_kind : Version → ByKind Change
change_by_kind v =
    kind_at 0 nothing (λ _. Absent) (
    kind_at 1 (pair key (session v)) (λ x. Alive x.0 x.1) (
    kind_at 2 key Ended (
    no_kind BadField)))

-- a change
unfoldable pub change : Version → Format Change
change v = tagged kind_of_change (change_fields v) (ChangeFits v) (change_by_kind v)

-- the session that a request names and the one that was made, of which at least one isn't absent
unfoldable pub commit : Version → Format (Change × Change)
commit v = such_that (pair (change v) (change v)) (λ x. not (is_absent x.0 && is_absent x.1))

-- what a node keeps of a key: 1 active, 2 sent, 3 gone, 4 ended
abbrev pub kind_of_state : KeyState → ℕ
kind_of_state (kept.Active e s) = 1
kind_of_state (kept.Sent e s to) = 2
kind_of_state (kept.Gone e) = 3
kind_of_state (kept.Ended e) = 4

-- what stands after that kind
abbrev pub state_fields : Version → KeyState → List ℕ
state_fields v (kept.Active e s) = (pair counting (session v)).text (e, s)
state_fields v (kept.Sent e s to) = (pair counting (pair node (session v))).text (e, (to, s))
state_fields v (kept.Gone e) = counting.text e
state_fields v (kept.Ended e) = counting.text e

-- the states whose fields have a spelling
abbrev pub StateFits : Version → KeyState → Type 0
StateFits v (kept.Active e s) = (pair counting (session v)).Fits (e, s)
StateFits v (kept.Sent e s to) = (pair counting (pair node (session v))).Fits (e, (to, s))
StateFits v (kept.Gone e) = counting.Fits e
StateFits v (kept.Ended e) = counting.Fits e

-- reading them; another kind is a field out of its range
abbrev pub state_by_kind : Version → ByKind KeyState
state_by_kind v =
    kind_at 1 (pair counting (session v)) (λ x. kept.Active x.0 x.1) (
    kind_at 2 (pair counting (pair node (session v))) (λ x. kept.Sent x.0 x.1.1 x.1.0) (
    kind_at 3 counting kept.Gone (
    kind_at 4 counting kept.Ended (
    no_kind BadField))))

-- a state
unfoldable pub key_state : Version → Format KeyState
key_state v = tagged kind_of_state (state_fields v) (StateFits v) (state_by_kind v)

-- a session that goes from node to node: its key, its epoch, the other node, the session
abbrev pub handover : Version → Format (Key × (ℕ × (ℕ × Session)))
handover v = pair key (pair counting (pair node (session v)))

-- the kinds of records
abbrev pub kind_of : Record → ℕ
kind_of (Boot b) = 1
kind_of (Commit named born) = 2
kind_of (Expired k) = 3
kind_of (Sent k e to s) = 4
kind_of (Taken k e from s) = 5
kind_of (Gone k e) = 6
kind_of (State k s) = 7
kind_of (Counters b next) = 8
kind_of (Forgets home b) = 9
kind_of (Counted home b next) = 10

-- what stands after the kind
abbrev pub fields : Version → Record → List ℕ
fields v (Boot b) = counting.text b
fields v (Commit named born) = (commit v).text (named, born)
fields v (Expired k) = key.text k
fields v (Sent k e to s) = (handover v).text (k, (e, (to, s)))
fields v (Taken k e from s) = (handover v).text (k, (e, (from, s)))
fields v (Gone k e) = (pair key counting).text (k, e)
fields v (State k s) = (pair key (key_state v)).text (k, s)
fields v (Counters b next) = (pair long counting).text (b, next)
fields v (Forgets home b) = (pair node counting).text (home, b)
fields v (Counted home b next) = (pair node (pair long counting)).text (home, (b, next))

-- the records whose fields have a spelling
abbrev pub FieldsFit : Version → Record → Type 0
FieldsFit v (Boot b) = counting.Fits b
FieldsFit v (Commit named born) = (commit v).Fits (named, born)
FieldsFit v (Expired k) = key.Fits k
FieldsFit v (Sent k e to s) = (handover v).Fits (k, (e, (to, s)))
FieldsFit v (Taken k e from s) = (handover v).Fits (k, (e, (from, s)))
FieldsFit v (Gone k e) = (pair key counting).Fits (k, e)
FieldsFit v (State k s) = (pair key (key_state v)).Fits (k, s)
FieldsFit v (Counters b next) = (pair long counting).Fits (b, next)
FieldsFit v (Forgets home b) = (pair node counting).Fits (home, b)
FieldsFit v (Counted home b next) = (pair node (pair long counting)).Fits (home, (b, next))

-- reading the fields; another kind is foreign
abbrev pub by_kind : Version → ByKind Record
by_kind v =
    kind_at 1 counting Boot (
    kind_at 2 (commit v) (λ x. Commit x.0 x.1) (
    kind_at 3 key Expired (
    kind_at 4 (handover v) (λ x. Sent x.0 x.1.0 x.1.1.0 x.1.1.1) (
    kind_at 5 (handover v) (λ x. Taken x.0 x.1.0 x.1.1.0 x.1.1.1) (
    kind_at 6 (pair key counting) (λ x. Gone x.0 x.1) (
    kind_at 7 (pair key (key_state v)) (λ x. State x.0 x.1) (
    kind_at 8 (pair long counting) (λ x. Counters x.0 x.1) (
    kind_at 9 (pair node counting) (λ x. Forgets x.0 x.1) (
    kind_at 10 (pair node (pair long counting)) (λ x. Counted x.0 x.1.0 x.1.1) (
    no_kind Foreign))))))))))

-- a record after its version
unfoldable pub record_format : Version → Format Record
record_format v = tagged kind_of (fields v) (FieldsFit v) (by_kind v)

-- the bytes of a record by a version
abbrev pub spelling_by : Version → Record → List ℕ
spelling_by = spelled record_format

-- the records that a version spells
abbrev pub HasSpellingBy : Version → Record → Type 0
HasSpellingBy = fits record_format

-- bytes are a spelling of a record
abbrev pub IsSpelling : List ℕ → Record → Type 0
IsSpelling = IsSpelled HasSpellingBy spelling_by

-- the bytes of a record as it is written: by version 2
abbrev pub spelling : Record → List ℕ
spelling = spelling_by Two

-- the records that may be written so
abbrev pub HasSpelling : Record → Type 0
HasSpelling = HasSpellingBy Two

-- the record that all of the bytes are, or the first trouble
abbrev pub record_of : List ℕ → Result Record RecordFault
record_of = whole record_format
