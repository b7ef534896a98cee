-- What was heard of a connection, as it is given to the node.
use Rattle.std.specs.Prelude.{◌≡◌, ℕ, cond, Bool, List, Option, Some, None}
use Rattle.sv_host.specs.Peers.{takes}
use Rattle.sv_host.specs.declared.peers.Peers.{Peers}
use Rattle.sv_model.specs.Migration.{sender}
use Rattle.sv_model.specs.declared.input.Input.{Input}
use Rattle.sv_model.specs.declared.input.Input.TheVariants as input
use Rattle.sv_net.specs.Hearing.{Finds, HearsAt}
use Rattle.sv_net.specs.declared.hearing.Heard.{Heard}
use Rattle.sv_net.specs.declared.hearing.Heard.TheVariants as heard
use Rattle.sv_net.specs.declared.state.State.{State}
use Rattle.sv_record.specs.declared.frame.Frame.{Frame}
use Rattle.sv_record.specs.declared.frame.Frame.TheVariants as frame

-- what a frame has for the node; a packet of a node whose packets aren't taken has nothing
abbrev pub input_of : Peers → Frame → Option Input
input_of peers (frame.Peer p) = cond (takes peers (sender p)) (Some (input.Packet p)) None
input_of peers (frame.Move key to) = Some (input.Move key to)
input_of peers frame.Tick = Some input.Tick
input_of peers frame.Halt = None

-- what was heard is given to the node: a request under this number, or what a frame has for it
abbrev pub IsGivenAs : Peers → ℕ → Heard → Input → Type 0
IsGivenAs peers number (heard.Request client request) given = given ≡ input.Ask number request
IsGivenAs peers number (heard.Frame frame rest) given = input_of peers frame ≡ Some given
IsGivenAs peers number (heard.More state) given = ⊥
IsGivenAs peers number (heard.Refused client fault head_only) given = ⊥
IsGivenAs peers number (heard.Greeting greeting) given = ⊥
IsGivenAs peers number heard.Nothing given = ⊥

-- what is given to the node stands at the front of the bytes that a connection held and of those that have come there after them
pub record IsOfBytes (peers : Peers) (greets : Bool) (was : State) (piece : List ℕ) (number : ℕ) (given : Input) : Type 0 where
  pub begun : State
  pub found : Finds greets was piece begun
  pub came : Heard
  pub hears : HearsAt begun piece came
  pub given_as : IsGivenAs peers number came given

-- the same of some connection
pub record IsHeardOf (number : ℕ) (given : Input) : Type 0 where
  pub peers : Peers
  pub greets : Bool
  pub was : State
  pub piece : List ℕ
  pub of_bytes : IsOfBytes peers greets was piece number given
