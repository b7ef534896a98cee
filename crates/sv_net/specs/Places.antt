-- The connections that are open, each at its place.
use Rattle.std.specs.Prelude.{◌≡◌, ◌⊎◌, ◌-◌, ℕ, ◌==◌, Bool, true, false, cond, List, Option, Some, None, IfSome, slice_get, slice_set}
use Rattle.sv_connection.specs.declared.reply.Naming.{Naming}
use Rattle.sv_net.specs.Bytes.{IsQuiet}
use Rattle.sv_net.specs.declared.connections.Connections.{Connections}
use Rattle.sv_net.specs.declared.open.Open.{Open}
use Rattle.sv_net.specs.declared.persistence.Persistence.{Persistence}
use Rattle.sv_net.specs.declared.state.State.{State}
use Rattle.sv_net.specs.declared.state.State.TheVariants.{New, Asking, Asked, Resting, Framing, Greeting, Taken, Peer}
use Rattle.sv_net.specs.declared.state.State.TheVariants.{Waiting, Ordering, Holding, Saying, Parting, Calling}

abbrev pub places_of : Connections → List (Option Open)
places_of c = c.places.items

-- how many requests a client's connection brings
abbrev pub persistence_of : Connections → Persistence
persistence_of c = c.links.persistence

-- where refusals name their cause
abbrev pub naming_of : Connections → Naming
naming_of c = c.naming

-- what stands at all places but one
abbrev pub elsewhere : ℕ → Connections → List (Option Open)
elsewhere place c = slice_set (places_of c) place None

-- the same, with this connection at that place; where there is no such place it stands nowhere
abbrev pub with_at : ℕ → Open → Connections → List (Option Open)
with_at place held c = slice_set (places_of c) place (Some held)

-- who stands at a place; none where nobody does, or there is no such place
abbrev pub held_in : Option (Option Open) → Option Open
held_in None = None
held_in (Some held) = held

abbrev pub held_at : Connections → ℕ → Option Open
held_at c place = held_in (slice_get (places_of c) place)

-- whoever stood at a place stands there as before
abbrev pub Spares : Connections → Connections → Type 0
Spares old new = (place : ℕ) → IfSome (held_at old place) (λ was. held_at new place ≡ Some was)

-- a client's request waits
abbrev pub waits : State → Bool
waits New = false
waits (Asking client) = false
waits (Asked client) = false
waits (Resting client) = false
waits (Framing bytes) = false
waits (Greeting bytes) = false
waits (Taken peer) = false
waits (Peer peer) = false
waits (Waiting client head_only close own silent) = true
waits Ordering = false
waits (Holding byte) = false
waits (Saying text next) = false
waits (Parting bytes) = false
waits (Calling to frame holder) = false

-- each client whose request waits still waits at its place
abbrev pub SparesClients : Connections → Connections → Type 0
SparesClients old new = (place : ℕ) → IfSome (held_at old place) (λ was. waits was.state ≡ true → held_at new place ≡ Some was)

-- how many are open
abbrev pub count_of : Connections → ℕ
count_of c = c.count

-- whoever comes is served as before: greetings are taken or not, and refusals name their cause or not
pub record ServesAlike (old new : Connections) : Type 0 where
  pub greets : new.greets ≡ old.greets
  pub naming : naming_of new ≡ naming_of old

-- a connection as it was, but for what its socket knows of the poll
pub record IsKept (was held : Open) : Type 0 where
  pub quiet : IsQuiet was.socket held.socket
  pub state : held.state ≡ was.state
  pub begun : held.begun ≡ was.begun
  pub heard : held.heard ≡ was.heard

-- it stands at its place
pub record StandsAt (place : ℕ) (was : Open) (old new : Connections) : Type 0 where
  pub held : Open
  pub kept : IsKept was held
  pub places : places_of new ≡ with_at place held old
  pub count : count_of new ≡ count_of old

-- it is closed: nobody else stands anywhere, and one less is open
pub record IsClosed (old new : Connections) : Type 0 where
  pub places : places_of new ≡ places_of old
  pub count : count_of new ≡ count_of old - 1

abbrev pub Keeps : ℕ → Open → Connections → Connections → Type 0
Keeps place was old new = StandsAt place was old new ⊎ IsClosed old new

-- who stands at a place has stood there before
abbrev pub HasStood : ℕ → Connections → Connections → Type 0
HasStood place old new = IfSome (held_at new place) (λ held. (was : Open) × (held_at old place ≡ Some was) × IsKept was held)

-- how a client whose request waits under this number wants a refusal: the head alone, and whether its connection closes
abbrev pub manner_for : ℕ → Bool → Bool → ℕ → Option (Bool × Bool)
manner_for token head_only close own = cond (own == token) (Some (head_only, close)) None

abbrev pub manner_in : ℕ → State → Option (Bool × Bool)
manner_in token New = None
manner_in token (Asking client) = None
manner_in token (Asked client) = None
manner_in token (Resting client) = None
manner_in token (Framing bytes) = None
manner_in token (Greeting bytes) = None
manner_in token (Taken peer) = None
manner_in token (Peer peer) = None
manner_in token (Waiting client head_only close own silent) = manner_for token head_only close own
manner_in token Ordering = None
manner_in token (Holding byte) = None
manner_in token (Saying text next) = None
manner_in token (Parting bytes) = None
manner_in token (Calling to frame holder) = None

abbrev pub manner_of : ℕ → Option (Option Open) → Option (Bool × Bool)
manner_of token None = None
manner_of token (Some None) = None
manner_of token (Some (Some held)) = manner_in token held.state

-- the same of the client at a place; none where no client waits there under this number
abbrev pub manner_at : Connections → ℕ → ℕ → Option (Bool × Bool)
manner_at c place token = manner_of token (slice_get (places_of c) place)

-- whoever waits under a number at this place was told something, by how it wants a refusal, or its connection is closed
abbrev pub TellsAt : ℕ → ℕ → (Bool × Bool → Open → Open → Type 0) → Connections → Connections → Type 0
TellsAt place token told old new =
    IfSome (manner_at old place token) (λ manner. IfSome (held_at old place) (λ was. IfSome (held_at new place) (λ held. told manner was held)))
