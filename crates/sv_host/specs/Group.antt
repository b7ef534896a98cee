-- Inputs that have come to a node and are still to be given to it, as its next group of steps.
use Rattle.std.specs.Prelude.{◌≡◌, ◌⊎◌, ◌<◌, ◌≤◌, ◌++◌, ◌∷◌, [], ℕ, List, Option, Some, None, vec_len, vec_capacity}
use Rattle.std.specs.List.{AllByRecursion}
use Rattle.sv_host.specs.Heard.{IsHeardOf}
use Rattle.sv_host.specs.declared.group.Asker.{Asker}
use Rattle.sv_host.specs.declared.group.Asker.TheVariants.{Client, Command, Nobody}
use Rattle.sv_host.specs.declared.group.Group.{Group}
use Rattle.sv_host.specs.declared.group.Came.{Came}
use Rattle.sv_host.specs.declared.group.Way.{Way}
use Rattle.sv_host.specs.declared.packets.Packets.{Packets}
use Rattle.sv_host.specs.declared.packets.Packets.TheVariants as packets
use Rattle.sv_model.specs.declared.input.Input.{Input}
use Rattle.sv_model.specs.declared.input.Input.TheVariants as input
use Rattle.sv_model.specs.declared.key.Moment.{Moment}
use Rattle.sv_model.specs.declared.request.Request.{Request}
use Rattle.sv_model.specs.Ranges.{IsInput}
use Rattle.sv_node.specs.GroupCalls.{all_given}
use Rattle.sv_node.specs.History.{IsAbove, RiseIn, number_in, numbers_in}

-- each with its moment
abbrev pub inputs_of : Group → List (Moment × Input)
inputs_of g = g.inputs.items

-- to whom what comes of each goes
abbrev pub ways_of : Group → List Way
ways_of g = g.ways.items

-- the greatest number of a request before it, and with it and those that were taken out of it
abbrev pub before_of : Group → ℕ
before_of g = g.before

abbrev pub number_of : Group → ℕ
number_of g = g.number

-- all of them are within the ranges of the formats, and the requests come under numbers that rise
pub record IsRising (g : Group) : Type 0 where
  pub within : AllByRecursion (λ i. IsInput i.1) (inputs_of g)
  pub rises : RiseIn (before_of g) (all_given (inputs_of g))
  pub number : numbers_in (before_of g) (all_given (inputs_of g)) ≤ number_of g

-- an input's request, and the number under which it came; none where it is something else, or there is no such input
abbrev pub request_of : Input → Option (ℕ × Request)
request_of (input.Ask number r) = Some (number, r)
request_of (input.Packet p) = None
request_of input.Poke = None
request_of input.Tick = None
request_of (input.Move k to) = None

abbrev pub request_in : Option (Moment × Input) → Option (ℕ × Request)
request_in None = None
request_in (Some i) = request_of i.1

-- nothing of it has changed
pub record IsSame (group next : Group) : Type 0 where
  pub inputs : inputs_of next ≡ inputs_of group
  pub ways : ways_of next ≡ ways_of group
  pub number : number_of next ≡ number_of group

-- one more stands after the others
pub record HasOneMore (one : Moment × Input) (way : Way) (group next : Group) : Type 0 where
  pub inputs : inputs_of next ≡ inputs_of group ++ one ∷ []
  pub ways : ways_of next ≡ ways_of group ++ way ∷ []
  pub number : number_of next ≡ number_in (number_of group) one.1

-- it takes memory to add one
abbrev pub IsFull : Group → Type 0
IsFull g = (vec_capacity g.inputs ≤ vec_len g.inputs) ⊎ (vec_capacity g.ways ≤ vec_len g.ways)

-- what stands after the others was heard on connections, each under a number
pub record HasMore (group next : Group) : Type 0 where
  pub more : List (Moment × Input)
  pub inputs : inputs_of next ≡ inputs_of group ++ more
  pub heard : AllByRecursion (λ i. (number : ℕ) × IsHeardOf number i.1) more

-- who asks for an input that has come on the connection at a place, and which packets that come of it are sent: a request is its
-- client's, a packet nobody's, and the others are commands
abbrev pub IsAskedBy : ℕ → ℕ → Input → Asker → Packets → Type 0
IsAskedBy place number (input.Ask own r) asker sent = (own ≡ number) × (asker ≡ Client place number) × (sent ≡ packets.All)
IsAskedBy place number (input.Packet p) asker sent = (asker ≡ Nobody) × (sent ≡ packets.All)
IsAskedBy place number input.Poke asker sent = ⊥
IsAskedBy place number input.Tick asker sent = (asker ≡ Command place) × (sent ≡ packets.InTurn)
IsAskedBy place number (input.Move k to) asker sent = (asker ≡ Command place) × (sent ≡ packets.All)

-- what has come on the connection at a place may be given to the node, a request under this number
pub record Comes (place number : ℕ) (came : Came) : Type 0 where
  pub within : IsInput came.input
  pub above : (low : ℕ) → low < number → IsAbove low came.input
  pub asked : IsAskedBy place number came.input came.asker came.packets
