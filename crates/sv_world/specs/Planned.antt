-- What each start of a node of a world in code was started with.
use Rattle.std.specs.Prelude.{◌≡◌, ⊤, ℕ, ◌==◌, ◌<◌, ◌≤◌, ◌+◌, ◌&&◌, nat_lt, nat_le, cond, Option, Some, None, List}
use Rattle.sv_model.specs.declared.node.Setting.{Setting}
use Rattle.sv_model.specs.Container.{Meanings, AllTouchOnlyHanded}
use Rattle.sv_model.specs.Engine.{EngineMeaning}
use Rattle.sv_world.specs.declared.installing.InstallFault.{InstallFault}
use Rattle.sv_world.specs.declared.installing.InstallFault.TheVariants.{NoNode, NotTold, Running}
use Rattle.sv_world.specs.declared.rules.Rules.{Rules}
use Rattle.sv_world.specs.declared.slot.Slot.{Slot}
use Rattle.sv_world.specs.declared.world.World.{World as Nodes}
use Rattle.sv_world.specs.Slot.{member_of, boot_if_up}
use Rattle.sv_world.specs.World.{Cluster, Member, World, setting_of, nothing_happened, run}
use Rattle.sv_world.specs.Worlds.{settings_by, meanings_by, heard_by, world_of, size_of, cluster_of, meanings_of}
use Rattle.sv_world.specs.Happened.{events_in}

-- the first start that what a node has now is of: its last one while it runs, else the next one
abbrev pub since_at : Member → ℕ
since_at p = cond p.up p.node.durable.boot (p.node.durable.boot + 1)

abbrev pub since : World → ℕ → ℕ
since w n = since_at (w.members n)

-- a plan says what each start of a node is started with; that of the start of which a node is now, and of all after it, is what
-- the node has. Each start is told of its own node, and no other node is there
pub record IsPlanned {E : Type 0} (meaning : E → EngineMeaning) (m : Meanings) (c : Cluster) (w : Nodes E) : Type 0 where
  pub inside : (n boot : ℕ) → n < size_of w → n < c.nodes n boot
  pub beyond : (n boot : ℕ) → size_of w ≤ n → c.nodes n boot ≤ n
  pub meanings : (n boot : ℕ) → n < size_of w → since (world_of w) n ≤ boot → meanings_of meaning w n ≡ Some (m n boot)
  pub settings : (n boot : ℕ) → n < size_of w → since (world_of w) n ≤ boot → setting_of (cluster_of w) n boot ≡ setting_of c n boot

-- the world is what its events make by a plan of one in which nothing had happened; no application of the plan changes a session
-- but the one at hand
pub record Ran {E : Type 0} (meaning : E → EngineMeaning) (m : Meanings) (c : Cluster) (w : Nodes E) : Type 0 where
  pub touches : AllTouchOnlyHanded m
  pub plan : IsPlanned meaning m c w
  pub world : world_of w ≡ run m c nothing_happened (events_in (world_of w))

-- ---- another application, other rules or another number of nodes

-- something else for the starts of a node after one of them
abbrev pub changed_behind : {A : Type 0} → ℕ → ℕ → A → (ℕ → ℕ → A) → ℕ → ℕ → A
changed_behind n last x plan y boot = cond (y == n && nat_lt last boot) x (plan y boot)

abbrev pub meanings_behind : ℕ → ℕ → EngineMeaning → Meanings → Meanings
meanings_behind n last e m = changed_behind n last e m

abbrev pub cluster_behind : ℕ → ℕ → ℕ → Rules → Cluster → Cluster
cluster_behind n last nodes rules c = record { nodes = changed_behind n last nodes c.nodes; rules = changed_behind n last rules c.rules }

-- the number of the last start of a node
abbrev pub last_of : {E : Type 0} → Nodes E → ℕ → ℕ
last_of w n = ((world_of w).members n).node.durable.boot

-- why a node can't get something else
abbrev pub fault_in : Option ℕ → Option InstallFault
fault_in None = None
fault_in (Some boot) = Some Running

abbrev pub fault_by : {E : Type 0} → ℕ → ℕ → Option (Slot E) → Option InstallFault
fault_by n nodes None = Some NoNode
fault_by n nodes (Some s) = cond (nat_le nodes n) (Some NotTold) (fault_in (boot_if_up (member_of s)))

-- the fault with which it is refused: that of the node, and where it has none, that its records don't fit, or want of memory
abbrev pub IsCause : Option InstallFault → InstallFault → Type 0
IsCause None fault = ⊤
IsCause (Some f) fault = fault ≡ f

-- a node has this engine and this setting, and all else is as it was
pub record AreInstalled {E : Type 0} (meaning : E → EngineMeaning) (noted : E → List (List ℕ)) (set : Setting) (engine : E) (old new : List (Slot E)) : Type 0 where
  pub settings : (x : ℕ) → settings_by new x ≡ cond (x == set.node) set (settings_by old x)
  pub meanings : (x : ℕ) → meanings_by meaning new x ≡ cond (x == set.node) (Some (meaning engine)) (meanings_by meaning old x)
  pub heard : (x : ℕ) → heard_by noted new x ≡ cond (x == set.node) (Some (noted engine)) (heard_by noted old x)
