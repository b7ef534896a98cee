-- A core, seen as a node with its engine's meaning and listeners.
use Rattle.std.specs.Prelude.{◌≡◌, ◌≤◌, ◌⊎◌, ℕ, Some, List, []}
use Rattle.sv_model.specs.declared.key.Moment.{Moment}
use Rattle.sv_model.specs.declared.input.Input.{Input}
use Rattle.sv_model.specs.declared.node.Setting.{Setting}
use Rattle.sv_model.specs.declared.node.Stage.{Stage}
use Rattle.sv_model.specs.declared.node.Stage.TheVariants.{Blank}
use Rattle.sv_model.specs.declared.record.Record.{Record}
use Rattle.sv_model.specs.Engine.{EngineMeaning}
use Rattle.sv_model.specs.NodeState.{Durable, Node, last_number}
use Rattle.sv_model.specs.Decision as model
use Rattle.sv_model.specs.Node.{decided}
use Rattle.sv_model.specs.Replay.{blank, boot_record, applied, replayed}
use Rattle.sv_model.specs.Fitting.{AllFit}
use Rattle.sv_model.specs.Step.{View}
use Rattle.sv_core.specs.declared.node.Core.{Core}
use Rattle.sv_core.specs.declared.decision.Decision.{Decision}
use Rattle.sv_core.specs.Kept.{node_of, IsReady}
use Rattle.sv_core.specs.Decision.{decision_of}
use Rattle.sv_core.specs.Snapshot.{staged}

-- which node it is
abbrev pub setting_of : {E : Type 0} → Core E → Setting
setting_of c = c.kept.setting

-- how far its records have come
abbrev pub stage_of : {E : Type 0} → Core E → Stage
stage_of c = c.kept.stage

-- what it keeps
abbrev pub node_at : {E : Type 0} → Core E → Node
node_at c = node_of c.kept

-- what its records give
abbrev pub durable_at : {E : Type 0} → Core E → Durable
durable_at c = (node_at c).durable

abbrev pub engine_of : {E : Type 0} → Core E → E
engine_of c = c.engine

abbrev pub view_of : {E : Type 0} → (E → EngineMeaning) → (E → List (List ℕ)) → Core E → View
view_of meaning heard c = record { meaning = meaning (engine_of c); node = node_at c; heard = heard (engine_of c) }

-- a decision of a core, as that of its node
abbrev pub decision_at : {E : Type 0} → Core E → Decision → model.Decision
decision_at c d = decision_of (setting_of c) (node_at c) d

-- a node starts once more
abbrev pub starts : Setting → Node → model.Decision
starts set n = record (model.idle n []) { entry = Some (boot_record set n.durable); durable = applied (boot_record set n.durable) n.durable }

-- the numbers after a decision are numbers still
pub record IsWithin (d : model.Decision) : Type 0 where
  pub want : d.next_want ≤ last_number
  pub next : d.durable.next ≤ last_number

-- what a node may do: what the table says at some moment and input, or a start
abbrev pub IsRow : EngineMeaning → Setting → Node → model.Decision → Type 0
IsRow m set n d = ((moment : Moment) × (input : Input) × (d ≡ decided m set n moment input)) ⊎ (d ≡ starts set n)

-- the decision was made for the core as it is, which has the room that it needs
pub record WasDecided {E : Type 0} (meaning : E → EngineMeaning) (c : Core E) (d : Decision) : Type 0 where
  pub row : IsRow (meaning (engine_of c)) (setting_of c) (node_at c) (decision_at c d)
  pub ready : IsReady c.kept
  pub within : IsWithin (decision_at c d)

-- a node that has no records yet
pub record IsNew {E : Type 0} (c : Core E) (engine : E) (set : Setting) : Type 0 where
  pub over : engine_of c ≡ engine
  pub setting : setting_of c ≡ set
  pub stage : stage_of c ≡ Blank
  pub node : node_at c ≡ record { durable = blank; parked = []; next_want = 1 }

-- a node that keeps what these records give, and in which nothing waits
pub record IsRecovered {E : Type 0} (c : Core E) (engine : E) (set : Setting) (records : List Record) : Type 0 where
  pub over : engine_of c ≡ engine
  pub setting : setting_of c ≡ set
  pub fit : AllFit set Blank blank records
  pub stage : stage_of c ≡ staged Blank records
  pub node : node_at c ≡ record { durable = replayed blank records; parked = []; next_want = 1 }
