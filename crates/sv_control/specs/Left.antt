-- Which sessions a drain moves.
use Rattle.std.specs.Prelude.{ℕ, List, [], ◌∷◌, length}
use Rattle.std.specs.List.{flat_map}
use Rattle.std.specs.FinMap.{entries}
use Rattle.sv_model.specs.declared.key.Key.{Key}
use Rattle.sv_model.specs.declared.record.Record.{Record}
use Rattle.sv_model.specs.declared.record.Record.TheVariants.{Boot, Commit, Expired, Sent as SentRecord, Taken}
use Rattle.sv_model.specs.declared.record.Record.TheVariants.{Gone as GoneRecord, State, Counters, Forgets, Counted}
use Rattle.sv_model.specs.declared.state.KeyState.{KeyState}
use Rattle.sv_model.specs.declared.state.KeyState.TheVariants.{Active, Sent, Gone, Ended}
use Rattle.sv_model.specs.NodeState.{Durable}

-- what a record of a snapshot has of its key, by what is made of a key and its state
abbrev pub at_state : (Key → KeyState → List Key) → Record → List Key
at_state f (Boot boot) = []
at_state f (Commit named born) = []
at_state f (Expired k) = []
at_state f (SentRecord k e to s) = []
at_state f (Taken k e from s) = []
at_state f (GoneRecord k e) = []
at_state f (State k st) = f k st
at_state f (Counters boot next) = []
at_state f (Forgets home boot) = []
at_state f (Counted home boot next) = []

-- the key, if its session is active
abbrev pub if_active : Key → KeyState → List Key
if_active k (Active e s) = k ∷ []
if_active k (Sent e s to) = []
if_active k (Gone e) = []
if_active k (Ended e) = []

-- the key of a record of a snapshot, if its session is active
abbrev pub active_at : Record → List Key
active_at entry = at_state if_active entry

-- the keys whose sessions are active by a snapshot
abbrev pub active_in : List Record → List Key
active_in records = flat_map active_at records

-- the key, if its session was handed over and not yet acknowledged
abbrev pub if_sent : Key → KeyState → List Key
if_sent k (Active e s) = []
if_sent k (Sent e s to) = k ∷ []
if_sent k (Gone e) = []
if_sent k (Ended e) = []

-- the key of a record of a snapshot, if its session is on its way
abbrev pub sent_at : Record → List Key
sent_at entry = at_state if_sent entry

-- the keys whose sessions are on their way by a snapshot
abbrev pub sent_in : List Record → List Key
sent_in records = flat_map sent_at records

-- what is left to be done: how many sessions are active, and how many are on their way
abbrev pub left_of : List Record → ℕ × ℕ
left_of records = (length (active_in records), length (sent_in records))

-- the keys whose sessions are active at a node, in order
abbrev pub active_of : Durable → List Key
active_of d = flat_map (λ (e : Key × KeyState). if_active e.0 e.1) (entries d.keys)
