-- The sessions that a node alone has made, by their serials from 1, as what a node keeps by key.
use Rattle.std.specs.Prelude.{◌≡◌, ℕ, ◌+◌, ◌<◌, ◌≤◌, Bool, false, Option, Some, None, List, [], ◌∷◌, ◌++◌, length, slice_get, slice_set}
use Rattle.std.specs.FinMap.{from_sorted}
use Rattle.sv_model.specs.declared.key.Key.{Key}
use Rattle.sv_model.specs.declared.key.Secret.{Secret}
use Rattle.sv_model.specs.declared.session.Session.{Session}
use Rattle.sv_model.specs.declared.event.Told.{Told}
use Rattle.sv_model.specs.declared.event.Event.TheVariants.{Destroyed}
use Rattle.sv_model.specs.declared.state.KeyState.{KeyState}
use Rattle.sv_model.specs.declared.state.KeyState.TheVariants.{Active, Sent, Gone, Ended}
use Rattle.sv_model.specs.declared.output.MoveRefusal.{MoveRefusal}
use Rattle.sv_model.specs.declared.output.MoveRefusal.TheVariants.{UnknownKey, NotActive, BadPeer}
use Rattle.sv_model.specs.declared.outcome.Fate.{Fate}
use Rattle.sv_model.specs.declared.outcome.Fate.TheVariants.{Untouched, Kept, Ended as FateEnded}
use Rattle.sv_model.specs.declared.outcome.Birth.{Birth}
use Rattle.sv_model.specs.declared.outcome.Birth.TheVariants.{Absent, Alive, Ended as BirthEnded}
use Rattle.sv_model.specs.Session.{is_expired}
use Rattle.sv_model.specs.declared.node.Setting.{Setting}
use Rattle.sv_model.specs.NodeState.{setting_for, Keys, Node}
use Rattle.sv_model.specs.Serving.{held_in}

-- a key of the one node
abbrev pub own_key : ℕ → Key
own_key serial = record { home = 0; serial = serial }

-- a session is active under its first epoch, or has ended
abbrev pub state_of : Option Session → KeyState
state_of None = Ended 1
state_of (Some s) = Active 1 s

-- by serials, from the first one
abbrev pub numbered : ℕ → List (Option Session) → List (Key × KeyState)
numbered first [] = []
numbered first (x ∷ xs) = (own_key first, state_of x) ∷ numbered (first + 1) xs

abbrev pub keys_of : List (Option Session) → Keys
keys_of sessions = from_sorted (numbered 1 sessions)

-- the place of a key among so many
abbrev pub IsMade : Key → ℕ → Option ℕ → Type 0
IsMade k made None = (place : ℕ) → k ≡ own_key (place + 1) → made ≤ place
IsMade k made (Some place) = (k ≡ own_key (place + 1)) × (place < made)

-- the session is active, and has expired
abbrev pub is_past : ℕ → Option Session → Bool
is_past now None = false
is_past now (Some s) = is_expired s now

-- the session at a place, if it is active
abbrev pub active_in : Option (Option Session) → Option Session
active_in None = None
active_in (Some x) = x

abbrev pub if_active : Option (Option Session) → ℕ → Option ℕ
if_active None place = None
if_active (Some None) place = None
if_active (Some (Some s)) place = Some place

-- the place of the session that is named, if it is active
pub record IsAt (sessions : List (Option Session)) (k : Key) (place : ℕ) : Type 0 where
  pub session : Session
  pub within : place < length sessions
  pub key : k ≡ own_key (place + 1)
  pub there : slice_get sessions place ≡ Some (Some session)

abbrev pub IsPlace : List (Option Session) → Option (Key × Secret) → Option ℕ → Type 0
IsPlace sessions named None = held_in (keys_of sessions) named ≡ None
IsPlace sessions None (Some place) = ⊥
IsPlace sessions (Some named) (Some place) = IsAt sessions named.0 place

-- the sessions after what became of the one that was named
abbrev pub fated_at : Option ℕ → Fate → List (Option Session) → List (Option Session)
fated_at None fate sessions = sessions
fated_at (Some place) Untouched sessions = sessions
fated_at (Some place) (Kept s) sessions = slice_set sessions place (Some s)
fated_at (Some place) FateEnded sessions = slice_set sessions place None

-- the sessions after what became of the one that was made
abbrev pub born_behind : Birth → List (Option Session) → List (Option Session)
born_behind Absent sessions = sessions
born_behind (Alive s) sessions = sessions ++ Some s ∷ []
born_behind BirthEnded sessions = sessions ++ None ∷ []

-- the sessions without the one that has expired, if there is one
abbrev pub without_at : Option ℕ → List (Option Session) → List (Option Session)
without_at None sessions = sessions
without_at (Some place) sessions = slice_set sessions place None

-- what listeners are told of a session's end
abbrev pub told_end : ℕ → Option (Option Session) → List Told
told_end place None = []
told_end place (Some None) = []
told_end place (Some (Some s)) = record { context = s.context; event = Destroyed (own_key (place + 1)) } ∷ []

abbrev pub end_at : Option ℕ → List (Option Session) → List Told
end_at None sessions = []
end_at (Some place) sessions = told_end place (slice_get sessions place)

-- ---- the node that they make up

-- one node, and no others
abbrev pub alone : Setting
alone = setting_for 0 1 0

-- a node that has made these sessions, since its first start; no request waits
abbrev pub node_of : List (Option Session) → Node
node_of sessions = record { durable = record { keys = keys_of sessions; boot = 1; next = length sessions + 1; home = None }; parked = []; next_want = 1 }

-- why a session isn't handed over if there is no other node
abbrev pub refusal_for : Option KeyState → MoveRefusal
refusal_for None = UnknownKey
refusal_for (Some (Active e s)) = BadPeer
refusal_for (Some (Sent e s to)) = NotActive
refusal_for (Some (Gone e)) = NotActive
refusal_for (Some (Ended e)) = NotActive
