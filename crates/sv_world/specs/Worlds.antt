-- A world in code, seen as a world of the definitions.
use Rattle.std.specs.Prelude.{◌≡◌, ℕ, ◌<◌, ◌≤◌, Option, Some, None, List, length, slice_get}
use Rattle.std.specs.List.{All}
use Rattle.sv_model.specs.declared.node.Setting.{Setting}
use Rattle.sv_model.specs.declared.packet.Packet.{Packet}
use Rattle.sv_model.specs.Engine.{EngineMeaning}
use Rattle.sv_model.specs.Replay.{blank}
use Rattle.sv_world.specs.declared.line.Line.{Line}
use Rattle.sv_world.specs.declared.rules.Rules.{Rules}
use Rattle.sv_world.specs.Rules.{rules_for, setting_by}
use Rattle.sv_world.specs.declared.slot.Slot.{Slot}
use Rattle.sv_world.specs.declared.world.World.{World as Nodes}
use Rattle.sv_world.specs.Slot.{IsSlot, member_of, meaning_in, heard_in}
use Rattle.sv_world.specs.World.{Cluster, Member, World, stopped}

-- ---- nodes, by their numbers

abbrev pub member_in : {E : Type 0} → Option (Slot E) → Member
member_in None = stopped blank
member_in (Some s) = member_of s

abbrev pub members_by : {E : Type 0} → List (Slot E) → ℕ → Member
members_by slots n = member_in (slice_get slots n)

abbrev pub setting_in : {E : Type 0} → Option (Slot E) → Setting
setting_in None = setting_by (rules_for 0) 0 0
setting_in (Some s) = s.setting

abbrev pub settings_by : {E : Type 0} → List (Slot E) → ℕ → Setting
settings_by slots n = setting_in (slice_get slots n)

-- what a node's engine means; none where there is no such node
abbrev pub meant_in : {E : Type 0} → (E → EngineMeaning) → Option (Slot E) → Option EngineMeaning
meant_in meaning None = None
meant_in meaning (Some s) = meaning_in meaning s

abbrev pub meanings_by : {E : Type 0} → (E → EngineMeaning) → List (Slot E) → ℕ → Option EngineMeaning
meanings_by meaning slots n = meant_in meaning (slice_get slots n)

-- what the listeners of a node's engine have noted
abbrev pub noted_in : {E : Type 0} → (E → List (List ℕ)) → Option (Slot E) → Option (List (List ℕ))
noted_in noted None = None
noted_in noted (Some s) = heard_in noted s

abbrev pub heard_by : {E : Type 0} → (E → List (List ℕ)) → List (Slot E) → ℕ → Option (List (List ℕ))
heard_by noted slots n = noted_in noted (slice_get slots n)

abbrev pub state_by : {E : Type 0} → List (Slot E) → List Packet → List Line → World
state_by slots packets trace = record { members = members_by slots; packets = packets; trace = trace }

-- the rules of a setting
abbrev pub rules_in : Setting → Rules
rules_in set = record { deadline = set.deadline; keys = set.keys; forget = set.forget }

-- each start of a node is told what the node has now; one that isn't there is told of none
abbrev pub cluster_by : {E : Type 0} → List (Slot E) → Cluster
cluster_by slots = record { nodes = λ n boot. (settings_by slots n).nodes; rules = λ n boot. rules_in (settings_by slots n) }

-- a setting is its node's own, and tells of it
pub record IsSet (n : ℕ) (set : Setting) : Type 0 where
  pub own : set.node ≡ n
  pub told : n < set.nodes

-- so are those of nodes
abbrev pub AreSet : {E : Type 0} → List (Slot E) → Type 0
AreSet slots = (n : ℕ) → n < length slots → IsSet n (settings_by slots n)

-- ---- a world

abbrev pub world_of : {E : Type 0} → Nodes E → World
world_of w = state_by w.slots.items w.packets.items w.trace.items

-- how many nodes there are
abbrev pub size_of : {E : Type 0} → Nodes E → ℕ
size_of w = length w.slots.items

-- what each node has now
abbrev pub cluster_of : {E : Type 0} → Nodes E → Cluster
cluster_of w = cluster_by w.slots.items

abbrev pub meanings_of : {E : Type 0} → (E → EngineMeaning) → Nodes E → ℕ → Option EngineMeaning
meanings_of meaning w = meanings_by meaning w.slots.items

abbrev pub heard_of : {E : Type 0} → (E → List (List ℕ)) → Nodes E → ℕ → Option (List (List ℕ))
heard_of noted w = heard_by noted w.slots.items

-- what holds between the events: each node has its journal and a core or an engine, and a setting of its own
pub record IsWorld {E : Type 0} (valid : E → Type 0) (w : Nodes E) : Type 0 where
  pub slots : All (λ s. IsSlot valid s) w.slots.items
  pub settings : AreSet w.slots.items
  pub some : 0 < length w.slots.items
  pub few : length w.slots.items ≤ 8

-- what each node's engine means
abbrev pub AllMean : {E : Type 0} → (E → EngineMeaning) → (ℕ → EngineMeaning) → Nodes E → Type 0
AllMean meaning m w = (n : ℕ) → n < size_of w → meanings_of meaning w n ≡ Some (m n)
