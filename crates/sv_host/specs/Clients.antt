-- Whose clients are kept: of each request that waits at the node, and of each that is to be given to it.
use Rattle.std.specs.Prelude.{◌≡◌, ℕ, ◌<◌, ◌≤◌, ◌≢◌, count_by, List, [], ◌∷◌, ⊤}
use Rattle.std.specs.List.{AllByRecursion}
use Rattle.sv_host.specs.Group.{before_of, inputs_of, ways_of}
use Rattle.sv_host.specs.Parked.{is_under, without}
use Rattle.sv_host.specs.declared.group.Asker.{Asker}
use Rattle.sv_host.specs.declared.group.Asker.TheVariants.{Client, Command, Nobody}
use Rattle.sv_host.specs.declared.group.Group.{Group}
use Rattle.sv_host.specs.declared.group.Way.{Way}
use Rattle.sv_host.specs.declared.parked.ParkedClient.{ParkedClient}
use Rattle.sv_model.specs.declared.input.Input.{Input}
use Rattle.sv_model.specs.declared.input.Input.TheVariants as input
use Rattle.sv_model.specs.declared.key.Moment.{Moment}
use Rattle.sv_model.specs.declared.node.Parked.{Parked}
use Rattle.sv_model.specs.declared.output.Output.{Output}
use Rattle.sv_model.specs.declared.output.Output.TheVariants.{Answer, Refuse, Send, Moved, MoveRefused}
use Rattle.sv_node.specs.Node.{state_of}
use Rattle.sv_node.specs.declared.node.Node.{Node}

-- a client waits under this number
abbrev pub Has : ℕ → List ParkedClient → Type 0
Has token clients = 0 < count_by (is_under token) clients

-- ---- requests that wait at the node

-- they came under numbers that rise, above `low` up to `high`, and of each number this holds
abbrev pub Wait : (ℕ → Type 0) → (low high : ℕ) → List Parked → Type 0
Wait P low high [] = low ≤ high
Wait P low high (p ∷ ps) = (low < p.token) × P p.token × Wait P p.token high ps

-- each has its client
abbrev pub WaitFor : (low high : ℕ) → List ParkedClient → List Parked → Type 0
WaitFor low high clients ps = Wait (λ token. Has token clients) low high ps

-- ---- inputs that are to be given to it

-- a request has its client
abbrev pub HasAsked : List ParkedClient → Input → Type 0
HasAsked clients (input.Ask number r) = Has number clients
HasAsked clients (input.Packet p) = ⊤
HasAsked clients input.Poke = ⊤
HasAsked clients input.Tick = ⊤
HasAsked clients (input.Move k to) = ⊤

-- each of them
abbrev pub AskedFor : List ParkedClient → List (Moment × Input) → Type 0
AskedFor clients is = AllByRecursion (λ i. HasAsked clients i.1) is

-- a request under this number
abbrev pub IsAskUnder : ℕ → Input → Type 0
IsAskUnder number (input.Ask own r) = own ≡ number
IsAskUnder number (input.Packet p) = ⊥
IsAskUnder number input.Poke = ⊥
IsAskUnder number input.Tick = ⊥
IsAskUnder number (input.Move k to) = ⊥

-- whoever has asked for an input as a client has asked by a request, under its number
abbrev pub MayAsk : Asker → Input → Type 0
MayAsk (Client place number) i = IsAskUnder number i
MayAsk (Command place) i = ⊤
MayAsk Nobody i = ⊤

-- the same of each of them
abbrev pub HaveWays : List (Moment × Input) → List Way → Type 0
HaveWays [] [] = ⊤
HaveWays [] (way ∷ ways) = ⊥
HaveWays (i ∷ is) [] = ⊥
HaveWays (i ∷ is) (way ∷ ways) = MayAsk way.asker i.1 × HaveWays is ways

-- ---- what is put out

-- it is for no client that waits under this number
abbrev pub IsForOthers : ℕ → Output → Type 0
IsForOthers token (Answer number response) = number ≢ token
IsForOthers token (Refuse number cause) = number ≢ token
IsForOthers token (Send packet) = ⊤
IsForOthers token Moved = ⊤
IsForOthers token (MoveRefused why) = ⊤

-- nothing of it is
abbrev pub AreForOthers : ℕ → List Output → Type 0
AreForOthers token outputs = AllByRecursion (λ o. IsForOthers token o) outputs

-- whoever is told nothing of it is kept
abbrev pub KeepsOthers : List Output → List ParkedClient → List ParkedClient → Type 0
KeepsOthers outputs old new = (token : ℕ) → AreForOthers token outputs → Has token old → Has token new

-- whoever asked is refused, and waits no more
abbrev pub refused_of : Asker → List ParkedClient → List ParkedClient
refused_of (Client place number) cs = without number cs
refused_of (Command place) cs = cs
refused_of Nobody cs = cs

-- ---- what is gathered

-- whoever waits goes on waiting
abbrev pub KeepsAll : (old new : List ParkedClient) → Type 0
KeepsAll old new = (token : ℕ) → Has token old → Has token new

-- whoever asked before the group is kept, and so is whoever asked for what is in it
pub record GathersFor (group next : Group) (old new : List ParkedClient) : Type 0 where
  pub kept : (token : ℕ) → token ≤ before_of group → Has token old → Has token new
  pub asked : AskedFor old (inputs_of group) → AskedFor new (inputs_of next)
  pub ways : HaveWays (inputs_of group) (ways_of group) → HaveWays (inputs_of next) (ways_of next)

-- each request that waits at the node has its client, and so has each that is to be given to it
pub record HaveClients {E D : Type 0} (waiters : List ParkedClient) (node : Node E D) (group : Group) : Type 0 where
  pub waiting : WaitFor 0 (before_of group) waiters (state_of node).parked
  pub asked : AskedFor waiters (inputs_of group)
  pub ways : HaveWays (inputs_of group) (ways_of group)
