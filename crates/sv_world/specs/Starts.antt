-- The calls of one node, each of a start of its own: an application and rules may be others from start to start.
--
-- What a process does is of one application and one setting (`IsLife` in sv_node's `History.antt`), and its starts are those that
-- it has made. So the processes of a node, one after the other, say what each start of the node was started with.
use Rattle.std.specs.Prelude.{◌≡◌, ℕ, ◌+◌, nat_le, cond, Option, Some, None, List, [], ◌∷◌, ⊤}
use Rattle.std.specs.List.{flat_map}
use Rattle.sv_model.specs.declared.event.Told.{Told}
use Rattle.sv_model.specs.declared.node.Setting.{Setting}
use Rattle.sv_model.specs.Container.{Meanings}
use Rattle.sv_model.specs.Engine.{EngineMeaning}
use Rattle.sv_model.specs.NodeState.{Durable}
use Rattle.sv_node.specs.Call.{Call, Open, Step, Unsaid, Compact, Stop, Does}
use Rattle.sv_node.specs.History.{Turn, Stand, Leads, halted, behind}
use Rattle.sv_world.specs.declared.rules.Rules.{Rules}
use Rattle.sv_world.specs.Rules.{rules_for, setting_by}
use Rattle.sv_world.specs.World.{Cluster}

-- the number of the start that a call is of: an opening is of the start that it makes, any other call is of the last one
abbrev pub number_of : Durable → Call → ℕ
number_of d (Open ending) = d.boot + 1
number_of d (Step at input ending) = d.boot
number_of d (Unsaid givens) = d.boot
number_of d (Compact ending) = d.boot
number_of d Stop = d.boot

-- each call does what such a call does with the application and the setting of its start
abbrev pub AreTurnsBy : (ℕ → EngineMeaning) → (ℕ → Setting) → Stand → List Turn → Type 0
AreTurnsBy m set s [] = ⊤
AreTurnsBy m set s (t ∷ ts) =
    let boot = number_of s.node.durable t.call in
    Does (m boot) (set boot) s.up s.node t.call t.after × AreTurnsBy m set (behind s t) ts

-- ---- the processes of a node, one after the other

-- a process of a node: what it was started with, what was durable before it and after it, and what its calls are (`IsLife` gives
-- them, whatever numbers requests had before)
pub record Process (n : ℕ) : Type 0 where
  pub meaning : EngineMeaning
  pub nodes : ℕ
  pub rules : Rules
  pub low : ℕ
  pub high : ℕ
  pub from : Durable
  pub to : Durable
  pub told : List Told
  pub leads : Leads meaning (setting_by rules n nodes) low high (halted from) (halted to) told

-- each begins with what the one before has left
abbrev pub FollowOn : {n : ℕ} → Durable → ℕ → List (Process n) → Type 0
FollowOn d low [] = ⊤
FollowOn d low (p ∷ ps) = (p.from ≡ d) × (p.low ≡ low) × FollowOn p.to p.high ps

-- all their calls, in turn
abbrev pub turns_of : {n : ℕ} → List (Process n) → List Turn
turns_of ps = flat_map (λ p. p.leads.turns) ps

-- the process that a start is of: its starts are those after the last one of what it began with, up to the last one of what it left
abbrev pub process_of : {n : ℕ} → List (Process n) → ℕ → Option (Process n)
process_of [] boot = None
process_of (p ∷ ps) boot = cond (nat_le boot p.to.boot) (Some p) (process_of ps boot)

-- ---- what each start was started with; of one that no process has made nothing is asked

abbrev pub meaning_in : {n : ℕ} → EngineMeaning → Option (Process n) → EngineMeaning
meaning_in other None = other
meaning_in other (Some p) = p.meaning

abbrev pub nodes_in : {n : ℕ} → Option (Process n) → ℕ
nodes_in {n} None = n + 1
nodes_in (Some p) = p.nodes

abbrev pub rules_in : {n : ℕ} → Option (Process n) → Rules
rules_in None = rules_for 0
rules_in (Some p) = p.rules

abbrev pub meanings_of : EngineMeaning → ((n : ℕ) → List (Process n)) → Meanings
meanings_of other ps = λ n boot. meaning_in other (process_of (ps n) boot)

abbrev pub cluster_of : ((n : ℕ) → List (Process n)) → Cluster
cluster_of ps = record { nodes = λ n boot. nodes_in (process_of (ps n) boot); rules = λ n boot. rules_in (process_of (ps n) boot) }
