-- What comes on a connection.
use Rattle.std.specs.Prelude.{◌≡◌, ◌⊎◌, ◌<◌, ℕ, ◌==◌, ◌||◌, ◌&&◌, ◌++◌, ◌∷◌, Bool, true, false, List, [], length, Some, None, Ok, ⊤}
use Rattle.sv_connection.specs.Connection.{IsFresh, is_closed, is_single, is_waiting, stand_of}
use Rattle.sv_connection.specs.Receive.{Receives, is_request}
use Rattle.sv_connection.specs.declared.received.Received.{Received}
use Rattle.sv_connection.specs.declared.received.Received.TheVariants as received
use Rattle.sv_net.specs.declared.client.Client.{Client}
use Rattle.sv_model.specs.Migration.{sender}
use Rattle.sv_record.specs.declared.frame.Frame.{Frame as FrameValue}
use Rattle.sv_record.specs.declared.frame.Frame.TheVariants as frame
use Rattle.sv_record.specs.Frame.{IsFrame}
use Rattle.sv_record.specs.Greeting.{IsGreeting, greeting_of}
use Rattle.sv_record.specs.declared.frame.TheConstants.{PEER, CONTROL}
use Rattle.sv_record.specs.declared.greeting.TheConstants.{GREETING, GREETING_LEN}
use Rattle.sv_net.specs.Frames.{behind_first, first_frame}
use Rattle.sv_net.specs.declared.hearing.Heard.{Heard}
use Rattle.sv_net.specs.declared.hearing.Heard.TheVariants.{More, Request, Refused, Frame, Greeting, Nothing}
use Rattle.sv_net.specs.declared.state.State.{State}
use Rattle.sv_net.specs.declared.state.State.TheVariants as state

-- a frame is one that can be spelled, and so is a greeting
abbrev pub IsHeard : Heard → Type 0
IsHeard (More state) = ⊤
IsHeard (Request client request) = ⊤
IsHeard (Refused client fault head_only) = ⊤
IsHeard (Frame frame rest) = IsFrame frame
IsHeard (Greeting greeting) = IsGreeting greeting
IsHeard Nothing = ⊤

-- a packet of the node of this number, and no command
abbrev pub is_of : FrameValue → ℕ → Bool
is_of (frame.Peer p) node = sender p == node
is_of (frame.Move key to) node = false
is_of frame.Tick node = false
is_of frame.Halt node = false

-- what a connection brings that has brought a packet of a node: packets of that node, and nothing else
abbrev pub IsOfPeer : ℕ → Heard → Type 0
IsOfPeer node (More (state.Peer peer)) = peer.node ≡ node
IsOfPeer node (More other) = ⊥
IsOfPeer node (Request client request) = ⊥
IsOfPeer node (Refused client fault head_only) = ⊥
IsOfPeer node (Frame frame rest) = is_of frame node ≡ true
IsOfPeer node (Greeting greeting) = ⊥
IsOfPeer node Nothing = ⊤

-- what a client's connection gives once these bytes stand after those that it held: what the reader's definition finds at their front
pub record Hears (was next : Client) (piece : List ℕ) (given : Received) : Type 0 where
  pub single : is_single next.connection ≡ is_single was.connection
  pub waiting : is_waiting next.connection ≡ is_request given
  pub received : Receives (is_single was.connection) (stand_of was.connection (Some piece)) (stand_of next.connection (Some [])) given

-- what comes of a client: its next request, or the fault that stands in that one's place; or less than a request, and all of it is kept;
-- nothing is heard of one that waits for an answer, or whose connection is closed
abbrev pub HearsClient : Client → List ℕ → Heard → Type 0
HearsClient was piece (More (state.Asking next)) = Hears was next piece received.More
HearsClient was piece (More (state.Resting next)) = Hears was next piece received.More
HearsClient was piece (More other) = ⊥
HearsClient was piece (Request next request) = Hears was next piece (received.Request request)
HearsClient was piece (Refused next fault head_only) = Hears was next piece (received.Refused fault head_only)
HearsClient was piece (Frame frame rest) = ⊥
HearsClient was piece (Greeting greeting) = ⊥
HearsClient was piece Nothing = (is_waiting was.connection ≡ true) ⊎ (is_closed was.connection ≡ true)

-- the first frame of these bytes, and what stands after it; nothing where that is no frame, or memory was refused
abbrev pub HearsFrame : List ℕ → FrameValue → List ℕ → Type 0
HearsFrame bytes frame rest = (first_frame bytes ≡ Ok (Some frame)) × (rest ≡ behind_first bytes)

-- less than a frame, and all of it is kept
abbrev pub HearsNoFrame : List ℕ → List ℕ → Type 0
HearsNoFrame bytes kept = (first_frame bytes ≡ Ok None) × (kept ≡ bytes)

-- what comes of whoever has sent the front of a first frame
abbrev pub HearsFramer : List ℕ → Heard → Type 0
HearsFramer bytes (More (state.Framing kept)) = HearsNoFrame bytes kept.items
HearsFramer bytes (More other) = ⊥
HearsFramer bytes (Request client request) = ⊥
HearsFramer bytes (Refused client fault head_only) = ⊥
HearsFramer bytes (Frame frame rest) = HearsFrame bytes frame rest.items
HearsFramer bytes (Greeting greeting) = ⊥
HearsFramer bytes Nothing = ⊤

-- what comes of whoever has sent the front of a greeting: all of the bytes are one
abbrev pub HearsGreeter : List ℕ → Heard → Type 0
HearsGreeter bytes (More (state.Greeting kept)) = (length bytes < GREETING_LEN) × (kept.items ≡ bytes)
HearsGreeter bytes (More other) = ⊥
HearsGreeter bytes (Request client request) = ⊥
HearsGreeter bytes (Refused client fault head_only) = ⊥
HearsGreeter bytes (Frame frame rest) = ⊥
HearsGreeter bytes (Greeting greeting) = greeting_of bytes ≡ Ok greeting
HearsGreeter bytes Nothing = ⊤

-- the same of a node that has sent a packet
abbrev pub HearsPeer : List ℕ → Heard → Type 0
HearsPeer bytes (More (state.Peer peer)) = HearsNoFrame bytes peer.bytes.items
HearsPeer bytes (More other) = ⊥
HearsPeer bytes (Request client request) = ⊥
HearsPeer bytes (Refused client fault head_only) = ⊥
HearsPeer bytes (Frame frame rest) = HearsFrame bytes frame rest.items
HearsPeer bytes (Greeting greeting) = ⊥
HearsPeer bytes Nothing = ⊤

-- what comes of a connection that is at a state, once these bytes have come
abbrev pub HearsAt : State → List ℕ → Heard → Type 0
HearsAt (state.Asking client) piece heard = HearsClient client piece heard
HearsAt (state.Asked client) piece heard = HearsClient client piece heard
HearsAt (state.Resting client) piece heard = HearsClient client piece heard
HearsAt (state.Framing bytes) piece heard = HearsFramer (bytes.items ++ piece) heard
HearsAt (state.Greeting bytes) piece heard = HearsGreeter (bytes.items ++ piece) heard
HearsAt (state.Taken peer) piece heard = HearsPeer (peer.bytes.items ++ piece) heard × IsOfPeer peer.node heard
HearsAt (state.Peer peer) piece heard = HearsPeer (peer.bytes.items ++ piece) heard × IsOfPeer peer.node heard
HearsAt state.New piece heard = heard ≡ More state.New
HearsAt (state.Waiting client head_only close token silent) piece heard = heard ≡ More (state.Waiting client head_only close token silent)
HearsAt state.Ordering piece heard = heard ≡ More state.Ordering
HearsAt (state.Holding byte) piece heard = heard ≡ More (state.Holding byte)
HearsAt (state.Saying text next) piece heard = heard ≡ More (state.Saying text next)
HearsAt (state.Parting bytes) piece heard = heard ≡ More (state.Parting bytes)
HearsAt (state.Calling to frame holder) piece heard = heard ≡ More (state.Calling to frame holder)

-- a frame begins with this byte, and so does a greeting, where greetings are taken
abbrev pub frames_by : ℕ → Bool
frames_by first = first == PEER || first == CONTROL

abbrev pub greets_by : Bool → ℕ → Bool
greets_by greets first = first == GREETING && greets

-- a connection begins with this byte: a frame's, a greeting's, or a client's, of which nothing was heard yet
abbrev pub BeginsBy : Bool → ℕ → State → Type 0
BeginsBy greets first (state.Framing bytes) = (frames_by first ≡ true) × (bytes.items ≡ [])
BeginsBy greets first (state.Greeting bytes) = (frames_by first ≡ false) × (greets_by greets first ≡ true) × (bytes.items ≡ [])
BeginsBy greets first (state.Asking client) =
    (frames_by first ≡ false) × (greets_by greets first ≡ false) × ((single : Bool) × IsFresh client.connection single)
BeginsBy greets first other = ⊥

-- the state at which these bytes find a connection: the first of all say who is there
abbrev pub Finds : Bool → State → List ℕ → State → Type 0
Finds greets state.New (first ∷ bytes) begun = BeginsBy greets first begun
Finds greets was piece begun = begun ≡ was
