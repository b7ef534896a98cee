-- All nodes over their disks, as their processes call them: what is known of each node by itself, and of the network.
use Rattle.std.specs.Prelude.{◌≡◌, ◌<◌, ◌==◌, ℕ, cond, List, [], ◌∷◌, ◌++◌, ⊤}
use Rattle.std.specs.List.{AllByRecursion}
use Rattle.sv_model.specs.declared.packet.Packet.{Packet}
use Rattle.sv_model.specs.Container.{Meanings}
use Rattle.sv_model.specs.Engine.{TouchesOnlyHanded}
use Rattle.sv_model.specs.Outputs.{sends_in}
use Rattle.sv_model.specs.Replay.{blank}
use Rattle.sv_node.specs.Call.{Call, Open, Step, Unsaid, Compact, Stop, Given}
use Rattle.sv_node.specs.History.{Turn, Rise, halted}
use Rattle.sv_world.specs.Disks.{NodeCall, WasSent}
use Rattle.sv_world.specs.Starts.{AreTurnsBy, Process, FollowOn, turns_of}
use Rattle.sv_world.specs.World.{Cluster, setting_of}

abbrev pub turn_of : NodeCall → Turn
turn_of l = record { call = l.call; after = l.after }

-- the calls at one node, in turn
abbrev pub turns_at : ℕ → List NodeCall → List Turn
turns_at n [] = []
turns_at n (l ∷ ls) = cond (n == l.node) (turn_of l ∷ turns_at n ls) (turns_at n ls)

-- each packet that comes is one of these
abbrev pub BringAll : List Packet → List Given → Type 0
BringAll packets [] = ⊤
BringAll packets (g ∷ gs) = WasSent packets g.input × BringAll packets gs

-- a packet that comes is one of these
abbrev pub BringsSent : List Packet → Call → Type 0
BringsSent packets (Open ending) = ⊤
BringsSent packets (Step at input ending) = WasSent packets input
BringsSent packets (Unsaid givens) = BringAll packets givens
BringsSent packets (Compact ending) = ⊤
BringsSent packets Stop = ⊤

-- each packet that comes is one of these, or was put out by an earlier call
abbrev pub BringSent : List Packet → List NodeCall → Type 0
BringSent packets [] = ⊤
BringSent packets (l ∷ ls) = BringsSent packets l.call × BringSent (packets ++ sends_in l.after.outputs) ls

-- Each node by itself does what such calls do with the application and the setting of their starts, from blank disks on, and is
-- asked under numbers that rise from each opening on; each of its starts is told of it; and the network brings no packet that no
-- node has put out.
pub record AreOfProcesses (m : Meanings) (c : Cluster) (calls : List NodeCall) : Type 0 where
  pub inside : AllByRecursion (λ (l : NodeCall). (boot : ℕ) → l.node < c.nodes l.node boot) calls
  pub turns : (n : ℕ) → AreTurnsBy (m n) (setting_of c n) (halted blank) (turns_at n calls)
  pub rise : (n : ℕ) → (high : ℕ) × Rise 0 high (turns_at n calls)
  pub sent : BringSent [] calls

-- The same, by the lives of processes: each node's calls are those of its processes, one after the other, from blank disks on; each
-- process has an application, that changes no session but the one at hand, and rules and a number of nodes, by which its own node is
-- one of them.
pub record AreOfLives (ps : (n : ℕ) → List (Process n)) (calls : List NodeCall) : Type 0 where
  pub touch : (n : ℕ) → AllByRecursion (λ (p : Process n). TouchesOnlyHanded p.meaning) (ps n)
  pub inside : (n : ℕ) → AllByRecursion (λ (p : Process n). n < p.nodes) (ps n)
  pub follow : (n : ℕ) → FollowOn blank 0 (ps n)
  pub turns : (n : ℕ) → turns_at n calls ≡ turns_of (ps n)
  pub sent : BringSent [] calls
