-- What a node keeps, and what it tells of a key.
use Rattle.std.specs.Prelude.{ℕ, ◌-◌, ◌^◌, ◌==◌, ◌&&◌, ◌||◌, Bool, true, false, cond, min, is_none, is_some, nat_le, nat_lt, Option, Some, None, List}
use Rattle.std.specs.FinMap.{FinMap, get, len}
use Rattle.sv_model.specs.declared.key.Key.{Key}
use Rattle.sv_model.specs.declared.session.Session.{Session}
use Rattle.sv_model.specs.declared.state.KeyState.{KeyState}
pub use Rattle.sv_model.specs.declared.node.Setting.{Setting}
pub use Rattle.sv_model.specs.declared.node.Parked.{Parked}
use Rattle.sv_model.specs.declared.state.KeyState.TheVariants.{Active, Sent, Gone, Ended}
use Rattle.sv_model.specs.declared.state.TheConstants.{KEY_LIMIT, KEY_MOST}
use Rattle.sv_model.specs.Keys.{key_cmp}

abbrev pub Keys : Type 0
Keys = FinMap key_cmp KeyState

-- a node that knows as many keys as is usual, and forgets none
abbrev pub setting_for : ℕ → ℕ → ℕ → Setting
setting_for node nodes deadline = record { node = node; nodes = nodes; deadline = deadline; keys = KEY_LIMIT; forget = false }

-- what its records give: what it keeps of each key, the number of its last start, the serial of its next birth, and the home
-- whose keys it forgets when they end here; none where it forgets none
pub record Durable : Type 0 where
  pub keys : Keys
  pub boot : ℕ
  pub next : ℕ
  pub home : Option ℕ

-- what it keeps until it stops: the requests that wait, in order of arrival, and the number of the next want that it sends
pub record Node : Type 0 where
  pub durable : Durable
  pub parked : List Parked
  pub next_want : ℕ

-- the last number of 64 bits: no serial, want or epoch has it
abbrev pub last_number : ℕ
last_number = 2 ^ 64 - 1

-- the session of a state
abbrev pub session_in : Option KeyState → Option Session
session_in None = None
session_in (Some (Active e s)) = Some s
session_in (Some (Sent e s to)) = None
session_in (Some (Gone e)) = None
session_in (Some (Ended e)) = None

-- the epoch of a state; that of an unknown key is 0
abbrev pub epoch_in : Option KeyState → ℕ
epoch_in None = 0
epoch_in (Some (Active e s)) = e
epoch_in (Some (Sent e s to)) = e
epoch_in (Some (Gone e)) = e
epoch_in (Some (Ended e)) = e

-- a request for such a key can be served here at once
abbrev pub is_settled : Option KeyState → Bool
is_settled None = false
is_settled (Some (Active e s)) = true
is_settled (Some (Sent e s to)) = false
is_settled (Some (Gone e)) = false
is_settled (Some (Ended e)) = true

-- ---- keys that are forgotten

-- the key is of the home whose keys are forgotten
abbrev pub is_own : Option ℕ → Key → Bool
is_own None k = false
is_own (Some home) k = k.home == home

-- the key was given here, by a node that forgets
abbrev pub was_given : Durable → Key → Bool
was_given d k = is_own d.home k && (nat_lt 0 k.serial && nat_lt k.serial d.next)

-- what is known of a key by what is kept of it; one that was given and is not kept is over: it has ended, at the last epoch
abbrev pub known_by : Bool → Option KeyState → Option KeyState
known_by given None = cond given (Some (Ended last_number)) None
known_by given (Some st) = Some st

-- what a node knows of a key
abbrev pub known : Durable → Key → Option KeyState
known d k = known_by (was_given d k) (get d.keys k)

-- ---- room for keys

-- with so many keys no further one becomes known
abbrev pub limit : Setting → ℕ
limit set = min set.keys KEY_MOST

-- records make no more keys known than these
abbrev pub bound : Setting → ℕ
bound set = cond (nat_le set.keys KEY_LIMIT) KEY_LIMIT KEY_MOST

-- there is no room for a further key
abbrev pub is_full : Setting → Durable → Bool
is_full set d = nat_le (limit set) (len d.keys)

-- a record may make a further key known
abbrev pub has_space : Setting → Durable → Bool
has_space set d = nat_lt (len d.keys) (bound set)

-- there is no room for this key
abbrev pub lacks_room : Setting → Durable → Key → Bool
lacks_room set d k = is_none (get d.keys k) && is_full set d

-- a node that forgets asks for no session that it has no room for
abbrev pub is_crowded : Setting → Durable → Key → Bool
is_crowded set d k = is_some d.home && lacks_room set d k

-- ---- keys that are no session's

-- the key is of this node, and the node has not yet handed it out
abbrev pub is_unmade : Setting → Durable → Key → Bool
is_unmade set d k = (k.home == set.node) && nat_le d.next k.serial

-- no session will ever come under the key
abbrev pub is_dead : Setting → Durable → Key → Bool
is_dead set d k = nat_le set.nodes k.home || is_unmade set d k
