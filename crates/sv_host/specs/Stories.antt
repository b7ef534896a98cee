-- What happens on a connection over its life: nothing that came on it is dropped, and nothing that was said on it is taken back.
use Rattle.std.specs.Prelude.{◌≡◌, ◌≢◌, ◌⊎◌, ◌++◌, ◌∷◌, ℕ, Bool, false, List, [], Vec, Option, Some, IfSome}
use Rattle.std.specs.declared.alloc.Global.{Global}
use Rattle.sv_connection.specs.Connection.{held_by}
use Rattle.sv_host.specs.Serve.{IsBehindFrame, IsSilent}
use Rattle.sv_net.specs.Bytes.{IsBlank, came_of, went_of}
use Rattle.sv_model.specs.declared.request.Request.{Request as RequestValue}
use Rattle.sv_net.specs.Exchange.{Continues, parts, said_on, turn_of, unread}
use Rattle.sv_net.specs.Hearing.{Finds, HearsAt}
use Rattle.sv_net.specs.Life.{Splits}
use Rattle.sv_net.specs.Places.{held_at}
use Rattle.sv_net.specs.Sending.{IsOwn}
use Rattle.sv_net.specs.declared.connections.Connections.{Connections}
use Rattle.sv_net.specs.declared.hearing.Heard.{Heard}
use Rattle.sv_net.specs.declared.hearing.Heard.TheVariants as heard
use Rattle.sv_net.specs.declared.open.Open.{Open}
use Rattle.sv_net.specs.declared.state.State.{State}
use Rattle.sv_net.specs.declared.state.State.TheVariants.{Calling, New}
use Rattle.sv_net.specs.declared.state.Turn.TheVariants as turn

-- one thing that happens on a connection
pub data Deed : Type 0 where
  -- it goes on: more of what was said leaves, and what it sends when it is told all is forgotten
  Rests : Deed
  -- a piece came after all that had come, and this was heard of what was held and of it
  Hears : (piece : List ℕ) → (came : Heard) → Deed
  -- a text was said after all that had been said
  Says : (text : List ℕ) → Deed
  -- the same, and nothing more is heard of it
  Parts : (text : List ℕ) → Deed

-- ---- one of them

-- a connection whose piece was heard: nothing was said, and what is still to be heard is what came after what was given
abbrev pub IsHeardTo : Heard → State → Type 0
IsHeardTo (heard.More next) now = now ≡ next
IsHeardTo (heard.Request client request) now = IsSilent (held_by client.connection) now
IsHeardTo (heard.Frame frame rest) now = IsBehindFrame rest.items now
IsHeardTo (heard.Refused client fault head_only) now = IsSilent [] now
IsHeardTo (heard.Greeting greeting) now = ⊥
IsHeardTo heard.Nothing now = ⊥

pub record IsHearing (piece : List ℕ) (came : Heard) (was held : Open) : Type 0 where
  pub listened : turn_of was.state ≢ turn.Socket
  pub greets : Bool
  pub begun : State
  pub found : Finds greets was.state piece begun
  pub hears : HearsAt begun piece came
  pub brought : came_of held.socket ≡ came_of was.socket ++ piece
  pub nothing_went : went_of held.socket ≡ went_of was.socket
  pub left : IsHeardTo came held.state

pub record IsSaying (text : List ℕ) (was held : Open) : Type 0 where
  pub said : said_on held ≡ said_on was ++ text
  pub nothing_came : came_of held.socket ≡ came_of was.socket
  pub listened : parts was.state ≡ false

abbrev pub Does : Deed → Open → Open → Type 0
Does Rests was held = Continues was held
Does (Hears piece came) was held = IsHearing piece came was held
Does (Says text) was held = IsSaying text was held × (unread held.state ≡ unread was.state)
Does (Parts text) was held = IsSaying text was held × (unread held.state ≡ [])

-- ---- all of them, in order

abbrev pub Story : List Deed → Open → Open → Type 0
Story [] was held = held ≡ was
Story (deed ∷ deeds) was held = (next : Open) × Does deed was next × Story deeds next held

abbrev pub HasStory : Open → Open → Type 0
HasStory was held = (deeds : List Deed) × Story deeds was held

-- ---- all connections

-- a packet on its way to another node
abbrev pub IsCall : Open → Type 0
IsCall held = (to : ℕ) × (frame : Vec ℕ Global) × (holder : Option ℕ) × (held.state ≡ Calling to frame holder)

-- a newcomer, of whom nothing was read, and to whom nothing was said
pub record IsNewcomer (first : Open) : Type 0 where
  pub blank : IsBlank first.socket.stream
  pub nothing_yet : first.state ≡ New

-- or one that the node made, for a packet or a greeting
abbrev pub Begins : Open → Type 0
Begins first = IsNewcomer first ⊎ (IsCall first ⊎ IsOwn first)

-- how whoever stands at a place has come to what it is: from who stood there before, or from a beginning
abbrev pub GoesBack : Option Open → Open → Type 0
GoesBack before held = ((was : Open) × (before ≡ Some was) × HasStory was held) ⊎ ((first : Open) × Begins first × HasStory first held)

-- the same of all
abbrev pub AllGoOn : Connections → Connections → Type 0
AllGoOn old new = (place : ℕ) → IfSome (held_at new place) (GoesBack (held_at old place))

-- the same where one was lifted from this place, and may stand there again
abbrev pub AllGoOnWith : ℕ → Open → Connections → Connections → Type 0
AllGoOnWith place one old new =
    (q : ℕ) → IfSome (held_at new q) (λ held. GoesBack (held_at old q) held ⊎ ((q ≡ place) × GoesBack (Some one) held))

-- whatever all have come to since a first moment, they go on from there
abbrev pub CarryOn : Connections → Connections → Type 0
CarryOn old new = (first : Connections) → AllGoOn first old → AllGoOn first new

-- ---- what a story says

-- the texts that were said, in order
abbrev pub said_in : List Deed → List ℕ
said_in [] = []
said_in (Rests ∷ deeds) = said_in deeds
said_in (Hears piece came ∷ deeds) = said_in deeds
said_in (Says text ∷ deeds) = text ++ said_in deeds
said_in (Parts text ∷ deeds) = text ++ said_in deeds

-- the pieces that came, in order
abbrev pub came_in : List Deed → List ℕ
came_in [] = []
came_in (Rests ∷ deeds) = came_in deeds
came_in (Hears piece came ∷ deeds) = piece ++ came_in deeds
came_in (Says text ∷ deeds) = came_in deeds
came_in (Parts text ∷ deeds) = came_in deeds

-- the request that was heard, if it was one, and then others
abbrev pub asked_by : Heard → List RequestValue → List RequestValue
asked_by (heard.More state) requests = requests
asked_by (heard.Request client request) requests = request ∷ requests
asked_by (heard.Frame frame rest) requests = requests
asked_by (heard.Refused client fault head_only) requests = requests
asked_by (heard.Greeting greeting) requests = requests
asked_by heard.Nothing requests = requests

-- the requests that were heard, in order
abbrev pub asked_in : List Deed → List RequestValue
asked_in [] = []
asked_in (Rests ∷ deeds) = asked_in deeds
asked_in (Hears piece came ∷ deeds) = asked_by came (asked_in deeds)
asked_in (Says text ∷ deeds) = asked_in deeds
asked_in (Parts text ∷ deeds) = asked_in deeds

-- it is a client's, which is heard on
abbrev pub IsClients : Heard → Type 0
IsClients (heard.More state) = Unit {0}
IsClients (heard.Request client request) = Unit {0}
IsClients (heard.Frame frame rest) = ⊥
IsClients (heard.Refused client fault head_only) = ⊥
IsClients (heard.Greeting greeting) = ⊥
IsClients heard.Nothing = ⊥

abbrev pub AreClients : List Deed → Type 0
AreClients [] = Unit {0}
AreClients (Rests ∷ deeds) = AreClients deeds
AreClients (Hears piece came ∷ deeds) = IsClients came × AreClients deeds
AreClients (Says text ∷ deeds) = AreClients deeds
AreClients (Parts text ∷ deeds) = ⊥

-- Of each story: what was said is what had been said and the texts, in order; what came is what had come and the pieces, in order, unless what
-- a client goes on sending is forgotten; and as long as a client is heard, what was still to be heard and the pieces are the messages of the
-- requests that were heard, in order, and what is still to be heard.
pub record KeepsItsStory (deeds : List Deed) (first last : Open) : Type 0 where
  pub said : said_on last ≡ said_on first ++ said_in deeds
  pub came : parts last.state ≡ false → came_of last.socket ≡ came_of first.socket ++ came_in deeds
  pub asked : AreClients deeds → Splits (unread first.state ++ came_in deeds) (asked_in deeds) (unread last.state)

abbrev pub StoriesAreWhole : Type 0
StoriesAreWhole = (deeds : List Deed) (first last : Open) → Story deeds first last → KeepsItsStory deeds first last
