-- A node in code, seen as a member of the world.
use Rattle.std.specs.Prelude.{◌≡◌, ℕ, true, cond, is_some, is_none, Option, Some, None, List, IfSome}
use Rattle.std.specs.Option.{option_map}
use Rattle.sv_model.specs.Engine.{EngineMeaning, heard_all}
use Rattle.sv_model.specs.declared.node.Setting.{Setting}
use Rattle.sv_model.specs.declared.node.Stage.TheVariants.{Blank}
use Rattle.sv_model.specs.NodeState.{Durable}
use Rattle.sv_model.specs.Replay.{blank, replayed}
use Rattle.sv_model.specs.Fitting.{AllFit}
use Rattle.sv_core.specs.declared.node.Core.{Core}
use Rattle.sv_core.specs.Core as core
use Rattle.sv_world.specs.declared.slot.Slot.{Slot}
use Rattle.sv_world.specs.declared.task.Task.{Task}
use Rattle.sv_world.specs.declared.line.Effect.{Effect}
use Rattle.sv_world.specs.Deed.{deed, told_by}
use Rattle.sv_world.specs.World.{Member, stopped}

-- what its journal gives
abbrev pub durable_of : {E : Type 0} → Slot E → Durable
durable_of s = replayed blank s.journal.items

abbrev pub member_by : {E : Type 0} → Option (Core E) → Durable → Member
member_by None d = stopped d
member_by (Some c) d = record { up = true; node = core.node_at c }

abbrev pub member_of : {E : Type 0} → Slot E → Member
member_of s = member_by s.core (durable_of s)

-- its engine, whether it runs or not
abbrev pub engine_by : {E : Type 0} → Option (Core E) → Option E → Option E
engine_by None idle = idle
engine_by (Some c) idle = Some (core.engine_of c)

abbrev pub engine_in : {E : Type 0} → Slot E → Option E
engine_in s = engine_by s.core s.idle

-- a core that runs over what is durable
pub record RunsOver {E : Type 0} (set : Setting) (d : Durable) (c : Core E) : Type 0 where
  pub setting : core.setting_of c ≡ set
  pub durable : core.durable_at c ≡ d

-- what holds between the events
pub record IsSlot {E : Type 0} (valid : E → Type 0) (s : Slot E) : Type 0 where
  pub engine : IfSome (engine_in s) (λ e. valid e)
  pub fit : AllFit s.setting Blank blank s.journal.items
  pub runs : IfSome s.core (λ c. RunsOver s.setting (durable_of s) c)
  -- it runs, or its engine waits for the next start
  pub either : is_some s.idle ≡ is_none s.core

-- the number of its last start, where it runs
abbrev pub boot_if_up : Member → Option ℕ
boot_if_up p = cond p.up (Some p.node.durable.boot) None

-- what its engine means, and what the engine's listeners have noted
abbrev pub meaning_in : {E : Type 0} → (E → EngineMeaning) → Slot E → Option EngineMeaning
meaning_in meaning s = option_map meaning (engine_in s)

abbrev pub heard_in : {E : Type 0} → (E → List (List ℕ)) → Slot E → Option (List (List ℕ))
heard_in heard s = option_map heard (engine_in s)

-- a task was done whose engine means `m`: the node is as the task leaves it, what was done is what the task does, and
-- listeners have noted what was told
pub record HasDone {E : Type 0} (noted : E → List (List ℕ)) (m : EngineMeaning) (old new : Slot E) (task : Task) (f : Effect) : Type 0 where
  pub member : member_of new ≡ (deed m old.setting (member_of old) task).member
  pub effect : f ≡ (deed m old.setting (member_of old) task).effect
  pub heard : heard_in noted new ≡ option_map (λ h. heard_all m h (told_by f)) (heard_in noted old)

-- nothing was done
pub record IsUndone {E : Type 0} (noted : E → List (List ℕ)) (old new : Slot E) : Type 0 where
  pub member : member_of new ≡ member_of old
  pub heard : heard_in noted new ≡ heard_in noted old
