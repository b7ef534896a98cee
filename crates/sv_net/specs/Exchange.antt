-- What was said on a connection, and what came on it, over its whole life.
use Rattle.std.specs.Prelude.{◌≡◌, ◌⊎◌, ◌++◌, ◌∷◌, ℕ, List, [], Bool, true, false, Option, Some, IfSome}
use Rattle.sv_connection.specs.Connection.{held_by}
use Rattle.sv_net.specs.Bytes.{came_of, went_of}
use Rattle.sv_net.specs.Places.{held_at}
use Rattle.sv_net.specs.declared.connections.Connections.{Connections}
use Rattle.sv_net.specs.declared.open.Open.{Open}
use Rattle.sv_net.specs.declared.state.Next.{Next}
use Rattle.sv_net.specs.declared.state.Next.TheVariants.{Close, Part, Listen}
use Rattle.sv_net.specs.declared.state.State.{State}
use Rattle.sv_net.specs.declared.state.Turn.{Turn}
use Rattle.sv_net.specs.declared.state.Turn.TheVariants as turn
use Rattle.sv_net.specs.declared.state.State.TheVariants as state

-- what is still to be said on a connection that is at a state: the rest of a text or of a packet, or the byte of a command
abbrev pub unsent : State → List ℕ
unsent state.New = []
unsent (state.Asking client) = []
unsent (state.Asked client) = []
unsent (state.Resting client) = []
unsent (state.Framing bytes) = []
unsent (state.Greeting bytes) = []
unsent (state.Taken peer) = []
unsent (state.Peer peer) = []
unsent (state.Waiting client head_only close token silent) = []
unsent state.Ordering = []
unsent (state.Holding byte) = byte ∷ []
unsent (state.Saying text next) = text.items
unsent (state.Parting bytes) = []
unsent (state.Calling to frame holder) = frame.items

-- what has come and is still to be heard: of one that closes nothing is heard any more
abbrev pub unread_behind : Next → List ℕ
unread_behind Close = []
unread_behind Part = []
unread_behind (Listen client) = held_by client.connection

abbrev pub unread : State → List ℕ
unread state.New = []
unread (state.Asking client) = held_by client.connection
unread (state.Asked client) = held_by client.connection
unread (state.Resting client) = held_by client.connection
unread (state.Framing bytes) = bytes.items
unread (state.Greeting bytes) = bytes.items
unread (state.Taken peer) = peer.bytes.items
unread (state.Peer peer) = peer.bytes.items
unread (state.Waiting client head_only close token silent) = held_by client.connection
unread state.Ordering = []
unread (state.Holding byte) = []
unread (state.Saying text next) = unread_behind next
unread (state.Parting bytes) = []
unread (state.Calling to frame holder) = []

-- all that was said on a connection: what has left, and after it what is still to leave
abbrev pub said_on : Open → List ℕ
said_on o = went_of o.socket ++ unsent o.state

-- it has been told all, and what it still sends is read and forgotten
abbrev pub parts : State → Bool
parts state.New = false
parts (state.Asking client) = false
parts (state.Asked client) = false
parts (state.Resting client) = false
parts (state.Framing bytes) = false
parts (state.Greeting bytes) = false
parts (state.Taken peer) = false
parts (state.Peer peer) = false
parts (state.Waiting client head_only close token silent) = false
parts state.Ordering = false
parts (state.Holding byte) = false
parts (state.Saying text next) = false
parts (state.Parting bytes) = true
parts (state.Calling to frame holder) = false

-- a connection is gone on with by what has come already, by what is read, or by its socket alone
abbrev pub turn_of : State → Turn
turn_of state.New = turn.Read
turn_of (state.Asking client) = turn.Read
turn_of (state.Asked client) = turn.Serve
turn_of (state.Resting client) = turn.Read
turn_of (state.Framing bytes) = turn.Read
turn_of (state.Greeting bytes) = turn.Read
turn_of (state.Taken peer) = turn.Serve
turn_of (state.Peer peer) = turn.Read
turn_of (state.Waiting client head_only close token silent) = turn.Socket
turn_of state.Ordering = turn.Socket
turn_of (state.Holding byte) = turn.Socket
turn_of (state.Saying text next) = turn.Socket
turn_of (state.Parting bytes) = turn.Socket
turn_of (state.Calling to frame holder) = turn.Socket

-- a state at which as much is still to be said and to be heard
pub record IsLike (was now : State) : Type 0 where
  pub unsent_is : unsent now ≡ unsent was
  pub unread_is : unread now ≡ unread was
  pub parts_is : parts now ≡ parts was

-- a connection goes on: nothing more was said on it, and nothing was read of it, unless to be forgotten, or taken of what had come
pub record Continues (was held : Open) : Type 0 where
  pub said : said_on held ≡ said_on was
  pub parts_on : parts was.state ≡ true → parts held.state ≡ true
  pub came : parts held.state ≡ false → came_of held.socket ≡ came_of was.socket
  pub unread_is : unread held.state ≡ unread was.state

-- whoever stands there has stood there before, and goes on
abbrev pub GoesOnThere : Option Open → Option Open → Type 0
GoesOnThere old new = IfSome new (λ held. (was : Open) × (old ≡ Some was) × Continues was held)

-- the same of each place
abbrev pub AllContinue : Connections → Connections → Type 0
AllContinue old new = (place : ℕ) → GoesOnThere (held_at old place) (held_at new place)

-- the same of all but whoever stands at this place, of whom this holds
abbrev pub GoOnBut : ℕ → (Open → Type 0) → Connections → Connections → Type 0
GoOnBut place P old new = (q : ℕ) → IfSome (held_at new q) (λ held. ((was : Open) × (held_at old q ≡ Some was) × Continues was held) ⊎ ((q ≡ place) × P held))

-- the same of all, and of one who was taken from a place and may stand there again
abbrev pub GoOnWith : ℕ → Open → Connections → Connections → Type 0
GoOnWith place one old new = GoOnBut place (λ held. Continues one held) old new

-- a command is answered by this byte, which is after all that was said on its connection; nothing is heard of it any more
pub record Obeys (byte : ℕ) (was held : Open) : Type 0 where
  pub ordered : was.state ≡ state.Ordering
  pub said : said_on held ≡ said_on was ++ byte ∷ []
  pub nothing_came : came_of held.socket ≡ came_of was.socket
  pub nothing_unread : unread held.state ≡ []

-- the same of whoever stood at a place
abbrev pub ObeysThere : ℕ → Option Open → Open → Type 0
ObeysThere byte before held = (was : Open) × (before ≡ Some was) × Obeys byte was held
