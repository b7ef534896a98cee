-- What comes on a connection.
use Rattle.std.specs.Prelude.{◌≡◌, ◌⊎◌, ◌++◌, ℕ, Bool, true, false, List, [], Vec, Option, Some, None, Ok, IfSome, ⊤}
use Rattle.std.specs.declared.alloc.Global.{Global}
use Rattle.sv_host.specs.Group.{Comes}
use Rattle.sv_connection.specs.Connection.{held_by}
use Rattle.sv_host.specs.Heard.{IsGivenAs, IsHeardOf, IsOfBytes}
use Rattle.sv_host.specs.declared.group.Came.{Came}
use Rattle.sv_host.specs.Stops.{IsToldBy}
use Rattle.sv_host.specs.declared.fault.Stop.{Stop}
use Rattle.sv_host.specs.declared.peers.Peers.{Peers}
use Rattle.sv_host.specs.declared.serve.Progress.{Progress}
use Rattle.sv_host.specs.declared.serve.Progress.TheVariants as progress
use Rattle.sv_host.specs.declared.server.Server.{Server}
use Rattle.sv_net.specs.Bytes.{IsQuiet, came_of, went_of}
use Rattle.sv_net.specs.Exchange.{GoOnWith, said_on, unread, unsent}
use Rattle.sv_net.specs.Frames.{first_frame}
use Rattle.sv_net.specs.Hearing.{Finds, HearsAt}
use Rattle.sv_net.specs.Places.{elsewhere, held_at}
use Rattle.sv_net.specs.declared.connections.Connections.{Connections}
use Rattle.sv_net.specs.declared.hearing.Heard.{Heard}
use Rattle.sv_net.specs.declared.hearing.Heard.TheVariants as heard
use Rattle.sv_net.specs.declared.open.Open.{Open}
use Rattle.sv_net.specs.declared.socket.Socket.{Socket}
use Rattle.sv_net.specs.declared.state.State.{State}
use Rattle.sv_net.specs.declared.state.State.TheVariants as state
use Rattle.sv_record.specs.declared.frame.Frame.TheVariants.{Halt as HaltFrame}

-- what it has for the node
abbrev pub came_in : Progress → Option Came
came_in progress.More = None
came_in progress.Done = None
came_in (progress.Came came) = Some came

-- more of it is to be read at once
abbrev pub is_more : Progress → Bool
is_more progress.More = true
is_more progress.Done = false
is_more (progress.Came came) = false

-- what has come for the node may be given to it, a request under this number, as it came on the connection at this place
abbrev pub Brings : ℕ → ℕ → Progress → Type 0
Brings place number progress = IfSome (came_in progress) (λ came. Comes place number came)

-- it stands at the front of these bytes
abbrev pub Takes : Peers → Bool → State → List ℕ → ℕ → Progress → Type 0
Takes peers greets was piece number progress = IfSome (came_in progress) (λ came. IsOfBytes peers greets was piece number came.input)

-- it stands at the front of what some connection has brought
abbrev pub IsHeard : ℕ → Progress → Type 0
IsHeard number progress = IfSome (came_in progress) (λ came. IsHeardOf number came.input)

-- whoever stands at a place where nobody stood has this socket, on which nothing has come or left meanwhile, and a state of this kind
abbrev pub StandsBy : ℕ → Socket → (State → Type 0) → Connections → Connections → Type 0
StandsBy place socket P old new = held_at old place ≡ None → IfSome (held_at new place) (λ held. IsQuiet socket held.socket × P held.state)

-- nobody stands at a place where nobody stood
abbrev pub StaysVacant : ℕ → Connections → Connections → Type 0
StaysVacant place old new = held_at old place ≡ None → held_at new place ≡ None

-- a text was said on a connection by this socket, and nothing more is heard of it
pub record IsToldLast (text : List ℕ) (socket : Socket) (held : Open) : Type 0 where
  pub said : said_on held ≡ went_of socket ++ text
  pub nothing_came : came_of held.socket ≡ came_of socket
  pub nothing_unread : unread held.state ≡ []

-- the same of whoever stands at a place where nobody stood
abbrev pub HearsNoMore : ℕ → Socket → Connections → Connections → Type 0
HearsNoMore place socket old new = held_at old place ≡ None → IfSome (held_at new place) (λ held. (text : List ℕ) × IsToldLast text socket held)

-- nothing is to be said at a state, and this is still to be heard
pub record IsSilent (rest : List ℕ) (state : State) : Type 0 where
  pub nothing_unsent : unsent state ≡ []
  pub rest_is : unread state ≡ rest

-- what is still to be heard after a frame: what came after it, or nothing, as after a command
abbrev pub IsBehindFrame : List ℕ → State → Type 0
IsBehindFrame rest state = IsSilent rest state ⊎ IsSilent [] state

-- a connection that was heard stands there by its socket: what is still to be heard of it is what came after that
abbrev pub IsLeftBy : Heard → Socket → Open → Type 0
IsLeftBy (heard.More next) socket held = IsQuiet socket held.socket × (held.state ≡ next)
IsLeftBy (heard.Request client request) socket held = IsQuiet socket held.socket × IsSilent (held_by client.connection) held.state
IsLeftBy (heard.Frame frame rest) socket held = IsQuiet socket held.socket × IsBehindFrame rest.items held.state
IsLeftBy (heard.Refused client fault head_only) socket held = (text : List ℕ) × IsToldLast text socket held
IsLeftBy (heard.Greeting greeting) socket held = ⊥
IsLeftBy heard.Nothing socket held = ⊥

-- less than a request or a frame has come: the connection stands at its place with all of it, or is closed
abbrev pub StaysAt : Bool → State → List ℕ → ℕ → Server → Progress → Type 0
StaysAt greets was piece place new progress.More =
    (begun : State) × (next : State) × Finds greets was piece begun × HearsAt begun piece (heard.More next)
    × IfSome (held_at new.connections place) (λ held. held.state ≡ next)
StaysAt greets was piece place new progress.Done = ⊤
StaysAt greets was piece place new (progress.Came came) = ⊤

-- a piece was heard of a connection: what is given to the node is what this gives, and what came after that is still to be heard
pub record HearsOn (peers : Peers) (greets : Bool) (was : Open) (piece : List ℕ) (place number : ℕ) (old new : Server) (progress : Progress) : Type 0 where
  pub begun : State
  pub found : Finds greets was.state piece begun
  pub came : Heard
  pub hears : HearsAt begun piece came
  pub gives : IfSome (came_in progress) (λ given. IsGivenAs peers number came given.input)
  pub left : held_at old.connections place ≡ None → IfSome (held_at new.connections place) (λ held. IsLeftBy came was.socket held)
  pub others : elsewhere place new.connections ≡ elsewhere place old.connections

-- a piece was heard of a connection, and the command to stop is whole with it
pub record Halts (greets : Bool) (was : Open) (piece : List ℕ) (stop : Stop) : Type 0 where
  pub bytes : Vec ℕ Global
  pub found : Finds greets was.state piece (state.Framing bytes)
  pub halt : first_frame (bytes.items ++ piece) ≡ Ok (Some HaltFrame)
  pub by_it : IsToldBy was.socket stop

-- nothing has come, and the connection goes on, or is closed
abbrev pub IsUnheard : Open → ℕ → Server → Server → Progress → Type 0
IsUnheard was place old new ended = (ended ≡ progress.Done) × GoOnWith place was old.connections new.connections

-- a connection was listened to once: a piece is what the kernel gave in that call, after all that it gave before, and is heard
pub record Listens (peers : Peers) (greets : Bool) (was : Open) (place number : ℕ) (old new : Server) (progress : Progress) : Type 0 where
  pub piece : List ℕ
  pub read : Open
  pub state : read.state ≡ was.state
  pub came : came_of read.socket ≡ came_of was.socket ++ piece
  pub went : went_of read.socket ≡ went_of was.socket
  pub heard_as : HearsOn peers greets read piece place number old new progress ⊎ ((piece ≡ []) × IsUnheard read place old new progress)

-- a connection was gone on with: what it held was heard, or a piece was read and heard; or it has said more of what was to be said on it,
-- and nothing was heard
abbrev pub GoesOn : Peers → Bool → Open → ℕ → ℕ → Server → Server → Progress → Type 0
GoesOn peers greets was place number old new ended =
    HearsOn peers greets was [] place number old new ended ⊎ Listens peers greets was place number old new ended
    ⊎ (held_at old.connections place ≡ None → IsUnheard was place old new ended)
