-- Nodes that are added while others run: what an operator sees to.
use Rattle.std.specs.Prelude.{◌≡◌, ◌<◌, ◌+◌, ℕ, true, IfSome, Option, Some, None, List, [], ◌∷◌, ⊤}
use Rattle.sv_model.specs.Container.{Meanings}
use Rattle.sv_world.specs.declared.event.WorldEvent.{WorldEvent}
use Rattle.sv_world.specs.declared.event.WorldEvent.TheVariants.{Ask, Deliver, Poke, Tick, Move, Crash, Torn, Silent, Restart, TornRestart}
use Rattle.sv_world.specs.World.{Cluster, Member, World, happens}

-- the node that an event starts
abbrev pub start_in : WorldEvent → Option ℕ
start_in (Ask n moment token r) = None
start_in (Deliver moment place) = None
start_in (Poke n moment) = None
start_in (Tick n moment) = None
start_in (Move n moment k to) = None
start_in (Crash n) = None
start_in (Torn n moment given kept) = None
start_in (Silent n moment given) = None
start_in (Restart n) = Some n
start_in (TornRestart n kept) = Some n

-- when a node is started, it is told of each node that was ever started, and each node that runs was told of it
pub record IsTurn (c : Cluster) (members : ℕ → Member) (n : ℕ) : Type 0 where
  pub knows : (y : ℕ) → 0 < (members y).node.durable.boot → y < c.nodes n ((members n).node.durable.boot + 1)
  pub known : (x : ℕ) → (members x).up ≡ true → n < c.nodes x (members x).node.durable.boot

-- So it is at each start. To add a node: start each node that runs anew with the longer list, one after the other, and then the new
-- one.
abbrev pub AreInTurn : Meanings → Cluster → World → List WorldEvent → Type 0
AreInTurn m c w [] = ⊤
AreInTurn m c w (e ∷ es) = IfSome (start_in e) (IsTurn c w.members) × AreInTurn m c (happens m c w e) es
