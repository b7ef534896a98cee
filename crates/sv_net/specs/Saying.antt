-- What stands at a place where a text was said.
use Rattle.std.specs.Prelude.{◌≡◌, ◌⊎◌, ℕ, ◌||◌, ◌++◌, List, [], Vec, Bool, true, false, Some, ⊤}
use Rattle.std.specs.declared.alloc.Global.{Global}
use Rattle.sv_connection.specs.Connection.{held_by, is_single, is_waiting, stand_of}
use Rattle.sv_connection.specs.Reply.{refusal_by}
use Rattle.sv_connection.specs.declared.reply.Naming.{Naming}
use Rattle.sv_connection.specs.Speak.{memory_lines}
use Rattle.sv_message.specs.Response.{IsResponseText}
use Rattle.sv_model.specs.declared.output.Cause.{Cause}
use Rattle.sv_model.specs.declared.output.Cause.TheVariants.{ParkFull, Deadline, TableFull, SerialsSpent, WantsSpent, JournalFull, Memory}
use Rattle.sv_model.specs.declared.response.Response.{Response}
use Rattle.sv_net.specs.Bytes.{IsLeft, IsQuiet, came_of}
use Rattle.sv_net.specs.Exchange.{said_on, unread}
use Rattle.sv_net.specs.declared.open.Open.{Open}
use Rattle.sv_net.specs.declared.socket.Socket.{Socket}
use Rattle.sv_net.specs.declared.client.Client.{Client}
use Rattle.sv_net.specs.declared.state.Next.{Next}
use Rattle.sv_net.specs.declared.state.Next.TheVariants.{Close, Part, Listen}
use Rattle.sv_net.specs.declared.state.State.{State}
use Rattle.sv_net.specs.declared.state.State.TheVariants.{Asked, Parting, Resting, Saying}

-- a client rests: it has less memory, and its connection holds what it held
pub record IsAtRest (was rested : Client) : Type 0 where
  pub single : is_single rested.connection ≡ is_single was.connection
  pub waiting : is_waiting rested.connection ≡ is_waiting was.connection
  pub stand : stand_of rested.connection (Some []) ≡ stand_of was.connection (Some [])
  pub held : held_by rested.connection ≡ held_by was.connection

-- a client is listened to further: what it has sent already is gone on with, or it rests
abbrev pub IsListenedTo : Client → State → Type 0
IsListenedTo client state = (state ≡ Asked client) ⊎ ((rested : Client) × (state ≡ Resting rested) × IsAtRest client rested)

-- what is after a text that was taken whole
abbrev pub Follows : Next → State → Type 0
Follows Close state = ⊥
Follows Part state = (bytes : ℕ) × (state ≡ Parting bytes)
Follows (Listen client) state = IsListenedTo client state

-- the same of a connection by this socket, on which nothing was read or written meanwhile
pub record FollowsOn (next : Next) (socket : Socket) (held : Open) : Type 0 where
  pub stands : Follows next held.state
  pub quiet : IsQuiet socket held.socket

-- what is left of a text waits to be said, or it was taken whole
abbrev pub IsSaying : List ℕ → Next → State → Type 0
IsSaying text next state = ((left : Vec ℕ Global) × (state ≡ Saying left next) × IsLeft left.items text) ⊎ Follows next state

-- a text was said on a connection, whole and once, after all that was said there before; nothing was read of it meanwhile
pub record Says (text : List ℕ) (next : Next) (before came : List ℕ) (held : Open) : Type 0 where
  pub stands : IsSaying text next held.state
  pub said : said_on held ≡ before ++ text
  pub nothing_came : came_of held.socket ≡ came

-- what follows is that the rest of what has come is heard, or the connection closes
abbrev pub HearsNext : List ℕ → Next → Type 0
HearsNext bytes Close = ⊤
HearsNext bytes Part = ⊤
HearsNext bytes (Listen next) = held_by next.connection ≡ bytes

-- a response was said on a connection at this time: its text, whole and once, and nothing else; and then what was still to be heard of it
-- is heard next, or it closes
pub record Tells (response : Response) (now : ℕ) (was held : Open) : Type 0 where
  pub text : List ℕ
  pub next : Next
  pub is_text : IsResponseText response now text
  pub says : Says text next (said_on was) (came_of was.socket) held
  pub hears : HearsNext (unread was.state) next

-- the same, or the lines that say that memory was refused
abbrev pub Answers : Response → ℕ → Open → Open → Type 0
Answers response now was held = Tells response now was held ⊎ Says memory_lines Part (said_on was) (came_of was.socket) held

abbrev pub is_deadline : Cause → Bool
is_deadline ParkFull = false
is_deadline Deadline = true
is_deadline TableFull = false
is_deadline SerialsSpent = false
is_deadline WantsSpent = false
is_deadline JournalFull = false
is_deadline Memory = false

-- the refusal of a client, by how it wants one; after one for its time its connection closes
abbrev pub refused_as : Naming → Cause → Bool × Bool → Response
refused_as naming cause manner = refusal_by naming cause manner.0 (manner.1 || is_deadline cause)
