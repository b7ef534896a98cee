-- What the other nodes know of the sessions of a node that is gone for good, and the journal of a node that takes its number.
use Rattle.std.specs.Prelude.{ℕ, ◌==◌, ◌&&◌, ◌||◌, Bool, true, false, nat_lt, if◌then◌else◌, List, [], ◌∷◌, ◌++◌, Option, Some, None}
use Rattle.std.specs.BTreeMap.{insert_entry}
use Rattle.sv_model.specs.declared.key.Key.{Key}
use Rattle.sv_model.specs.declared.key.TheConstants.{NODE_LIMIT}
use Rattle.sv_model.specs.declared.record.Record.{Record}
use Rattle.sv_model.specs.declared.record.Record.TheVariants.{Boot, Commit, Expired, Sent as SentRecord, Taken, Gone as GoneRecord, State, Counters, Forgets, Counted}
use Rattle.sv_model.specs.declared.state.KeyState.{KeyState}
use Rattle.sv_model.specs.declared.state.KeyState.TheVariants.{Active, Sent, Gone, Ended}
use Rattle.sv_model.specs.Keys.{key_cmp}
use Rattle.sv_model.specs.NodeState.{Durable, known}
use Rattle.sv_core.specs.Snapshot.{snapshot_of}
use Rattle.sv_control.specs.declared.gone.LastSeen.{LastSeen}
use Rattle.sv_control.specs.declared.gone.Sighting.{Sighting}
use Rattle.sv_control.specs.declared.gone.Whereabouts.{Whereabouts}
use Rattle.sv_control.specs.declared.gone.Whereabouts.TheVariants.{Lost, Unacknowledged, Over, Elsewhere}

-- ---- what the others know

abbrev pub seen_at : ℕ → Whereabouts → Sighting
seen_at epoch whereabouts = record { epoch = epoch; whereabouts = whereabouts }

-- what a node tells of a session by what it knows of its key
abbrev pub seen_as : ℕ → KeyState → Sighting
seen_as gone (Active e s) = seen_at e Elsewhere
seen_as gone (Sent e s to) = seen_at e (if to == gone then Unacknowledged else Elsewhere)
seen_as gone (Gone e) = seen_at e Lost
seen_as gone (Ended e) = seen_at e Over

abbrev pub seen_if : ℕ → Option KeyState → Option Sighting
seen_if gone None = None
seen_if gone (Some st) = Some (seen_as gone st)

-- whose word counts at one epoch: first that of a node that has the session, then of one that ended it, then of one that sent it to the
-- gone node, last of one that handed it over and had that acknowledged, by whomever
abbrev pub rank : Whereabouts → ℕ
rank Lost = 0
rank Unacknowledged = 1
rank Over = 2
rank Elsewhere = 3

abbrev pub is_later : Sighting → Sighting → Bool
is_later a b = nat_lt a.epoch b.epoch || (a.epoch == b.epoch && nat_lt (rank a.whereabouts) (rank b.whereabouts))

abbrev pub latest : Option Sighting → Option Sighting → Option Sighting
latest a None = a
latest None (Some b) = Some b
latest (Some a) (Some b) = if is_later a b then Some b else Some a

-- what all of them know of a session: the epoch is the greatest that any of them has heard of
abbrev pub latest_of : ℕ → Key → Option Sighting → List Durable → Option Sighting
latest_of gone k last [] = last
latest_of gone k last (d ∷ ds) = latest_of gone k (latest last (seen_if gone (known d k))) ds

-- who still sends a session to the gone node, at each tick, as that has not acknowledged it
abbrev pub sends : ℕ → Option KeyState → Bool
sends gone None = false
sends gone (Some (Active e s)) = false
sends gone (Some (Sent e s to)) = to == gone
sends gone (Some (Gone e)) = false
sends gone (Some (Ended e)) = false

abbrev pub is_sent : ℕ → Key → List Durable → Bool
is_sent gone k [] = false
is_sent gone k (d ∷ ds) = sends gone (known d k) || is_sent gone k ds

-- of each key that one of them keeps, in order
abbrev pub Seen : Type 0
Seen = List (Key × LastSeen)

abbrev pub with_seen : Key → Bool → Option Sighting → Seen → Seen
with_seen k is_sent None seen = seen
with_seen k is_sent (Some last) seen =
    insert_entry key_cmp seen k (record { epoch = last.epoch; whereabouts = last.whereabouts; is_sent = is_sent })

abbrev pub seen_with : ℕ → List Durable → Record → Seen → Seen
seen_with gone ds (Boot boot) seen = seen
seen_with gone ds (Commit named born) seen = seen
seen_with gone ds (Expired k) seen = seen
seen_with gone ds (SentRecord k e to s) seen = seen
seen_with gone ds (Taken k e from s) seen = seen
seen_with gone ds (GoneRecord k e) seen = seen
seen_with gone ds (State k st) seen = with_seen k (is_sent gone k ds) (latest_of gone k None ds) seen
seen_with gone ds (Counters boot next) seen = seen
seen_with gone ds (Forgets home boot) seen = seen
seen_with gone ds (Counted home boot next) seen = seen

abbrev pub seen_in : ℕ → List Durable → List Record → Seen → Seen
seen_in gone ds [] seen = seen
seen_in gone ds (r ∷ rs) seen = seen_in gone ds rs (seen_with gone ds r seen)

abbrev pub seen_by : ℕ → List Durable → List Durable → Seen → Seen
seen_by gone ds [] seen = seen
seen_by gone ds (d ∷ rest) seen = seen_by gone ds rest (seen_in gone ds (snapshot_of d) seen)

-- what nodes that keep this know of the sessions
abbrev pub seen_of : ℕ → List Durable → Seen
seen_of gone ds = seen_by gone ds ds []

-- ---- the new journal

-- A session of another home that was at the gone node, or was sent there, has ended, at the epoch at which it was seen. Of another one
-- something is kept if it is still sent there: what comes so is older.
abbrev pub if_sent : Bool → KeyState → Option KeyState
if_sent true st = Some st
if_sent false st = None

abbrev pub foreign_state : LastSeen → Whereabouts → Option KeyState
foreign_state last Lost = Some (Ended last.epoch)
foreign_state last Unacknowledged = Some (Ended last.epoch)
foreign_state last Over = if_sent last.is_sent (Ended last.epoch)
foreign_state last Elsewhere = if_sent last.is_sent (Gone last.epoch)

-- one that the gone node made is gone while it lives elsewhere; of the others nothing is kept, as of all own sessions that have ended
abbrev pub own_state : LastSeen → Whereabouts → Option KeyState
own_state last Lost = None
own_state last Unacknowledged = None
own_state last Over = None
own_state last Elsewhere = Some (Gone last.epoch)

abbrev pub state_for : ℕ → Key → LastSeen → Option KeyState
state_for node k last = if k.home == node then own_state last last.whereabouts else foreign_state last last.whereabouts

abbrev pub row_if : Key → Option KeyState → List Record
row_if k None = []
row_if k (Some st) = State k st ∷ []

abbrev pub rows_of : ℕ → Seen → List Record
rows_of node [] = []
rows_of node (seen ∷ rest) = row_if seen.0 (state_for node seen.0 seen.1) ++ rows_of node rest

-- the snapshot of a node that has the gone one's number and forgets its own keys, with the number of its last start and the serial of its
-- next session: what was made before and isn't kept counts as ended
abbrev pub remade : ℕ → ℕ → ℕ → Seen → List Record
remade node boot next seen = Counted node boot next ∷ rows_of node seen

-- a row of such a journal, with numbers that may be written
abbrev pub is_row : Key → KeyState → Bool
is_row k (Active e s) = false
is_row k (Sent e s to) = false
is_row k (Gone e) = nat_lt k.home NODE_LIMIT && nat_lt 0 k.serial && nat_lt 0 e
is_row k (Ended e) = nat_lt k.home NODE_LIMIT && nat_lt 0 k.serial && nat_lt 0 e

-- such a record, with numbers that may be written
abbrev pub can_be_written : Record → Bool
can_be_written (Boot boot) = false
can_be_written (Commit named born) = false
can_be_written (Expired k) = false
can_be_written (SentRecord k e to s) = false
can_be_written (Taken k e from s) = false
can_be_written (GoneRecord k e) = false
can_be_written (State k st) = is_row k st
can_be_written (Counters boot next) = false
can_be_written (Forgets home boot) = false
can_be_written (Counted home boot next) = nat_lt home NODE_LIMIT && nat_lt 0 next
