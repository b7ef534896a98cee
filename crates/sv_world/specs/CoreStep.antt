-- What is known of a core, its journal and a plan while a task is done.
use Rattle.std.specs.Prelude.{◌≡◌, ℕ, ◌==◌, ◌&&◌, Bool, cond, not, is_some, IfSome, Option, Some, None, List}
use Rattle.sv_model.specs.declared.input.Input.{Input}
use Rattle.sv_model.specs.declared.key.Moment.{Moment}
use Rattle.sv_model.specs.declared.node.Setting.{Setting}
use Rattle.sv_model.specs.declared.node.Stage.{Stage}
use Rattle.sv_model.specs.declared.node.Stage.TheVariants.{Blank}
use Rattle.sv_model.specs.declared.record.Record.{Record}
use Rattle.sv_model.specs.Engine.{EngineMeaning, heard_all}
use Rattle.sv_model.specs.NodeState.{Durable, Node, last_number}
use Rattle.sv_model.specs.Decision as model
use Rattle.sv_model.specs.Journaled.{IsJournaled}
use Rattle.sv_model.specs.Node.{decided}
use Rattle.sv_model.specs.Replay.{blank, boot_record, applied_if, replayed}
use Rattle.sv_model.specs.Fitting.{Fits, AllFit}
use Rattle.sv_model.specs.Decision.{left}
use Rattle.sv_model.specs.Step.{told}
use Rattle.sv_core.specs.declared.node.Core.{Core}
use Rattle.sv_core.specs.declared.decision.Decision as code
use Rattle.sv_core.specs.Core as core
use Rattle.sv_core.specs.Decision.{entry_in}
use Rattle.sv_world.specs.declared.line.Effect.{Effect}
use Rattle.sv_world.specs.declared.line.Heading.{Heading}
use Rattle.sv_world.specs.declared.core_start.BootPlan.{BootPlan}
use Rattle.sv_world.specs.declared.plan.Plan.{Plan}
use Rattle.sv_world.specs.declared.core_torn.Rest.{Rest}
use Rattle.sv_world.specs.Deed.{Done, traced_of, whole_at, quiet_at, start_by}
use Rattle.sv_world.specs.World.{stopped, started, commit_with}
use Rattle.sv_world.specs.Traced.{traced_in}

-- a row of the table of a node's steps
unfoldable pub row_at : EngineMeaning → Setting → Node → Moment → Input → model.Decision
row_at m set n moment input = decided m set n moment input

-- the core runs over these records
pub record IsOver {E : Type 0} (records : List Record) (c : Core E) : Type 0 where
  pub fit : AllFit (core.setting_of c) Blank blank records
  pub durable : core.durable_at c ≡ replayed blank records

-- the plan of a decision
abbrev pub plan_of : code.Decision → Plan
plan_of d = record { decision = d; entry = entry_in d; traced = traced_in d }

-- the plan of a decision of the core
pub record IsPlan {E : Type 0} (meaning : E → EngineMeaning) (c : Core E) (d : model.Decision) (p : Plan) : Type 0 where
  pub decided : core.WasDecided meaning c p.decision
  pub decision : core.decision_at c p.decision ≡ d
  pub journaled : IsJournaled (core.setting_of c) (core.node_at c) d
  pub entry : p.entry ≡ d.entry
  pub traced : p.traced ≡ traced_of d

-- a decision was carried out: what listeners had noted and now have, the node now, and what was done
pub record IsCarriedOut (m : EngineMeaning) (d : model.Decision) (h : Heading) (had has : List (List ℕ)) (n : Node) (f : Effect) : Type 0 where
  pub node : n ≡ left d
  pub heard : has ≡ heard_all m had (told d)
  pub effect : f ≡ whole_at h d

-- a decision was carried out at the node, and nothing of it has left
pub record IsSilenced (d : model.Decision) (h : Heading) (n : Node) (f : Effect) : Type 0 where
  pub node : n ≡ left d
  pub effect : f ≡ quiet_at h d.entry (commit_with d.entry d.commit)

-- what a stop leaves of a step, as its plan says
abbrev pub rest_in : Bool → Plan → Rest
rest_in kept p =
    cond (kept && is_some p.entry) (record { kept = p.entry; entry = p.traced.entry; commit = p.traced.commit })
    (record { kept = None; entry = None; commit = None })

-- what a stop leaves of a step
abbrev pub rest_of : Bool → model.Decision → Rest
rest_of kept d =
    cond (kept && is_some d.entry) (record { kept = d.entry; entry = d.entry; commit = d.commit }) (record { kept = None; entry = None; commit = None })

-- the record of a start, where its node has a boot number left
abbrev pub start_entry : Setting → Durable → Option Record
start_entry set d = cond (not (d.boot == last_number)) (Some (boot_record set d)) None

-- a node after the record of its start
abbrev pub begun : Option Record → Node → Node
begun entry n = record { durable = applied_if entry n.durable; parked = n.parked; next_want = n.next_want }

-- the plan of a start's decision
abbrev pub boot_plan_of : code.Decision → BootPlan
boot_plan_of d = record { decision = d; kept = entry_in d; entry = entry_in d }

-- a node that stops with what a stop has left of its step
abbrev pub halted_with : Heading → Durable → Rest → Done
halted_with h d r = record { member = stopped (applied_if r.kept d); effect = quiet_at h r.entry r.commit }

-- the record that may be there fits after these
abbrev pub MayFollow : Setting → Durable → Option Record → Type 0
MayFollow set d o = (stage : Stage) → IfSome o (λ r. Fits set stage d r)

-- the record of a start that comes so far
abbrev pub start_entry_if : Setting → Bool → Durable → Option Record
start_entry_if set kept d = cond kept (start_entry set d) None

-- a start, that leaves the node running where it stays
abbrev pub start_of : Setting → Durable → Bool → Bool → Done
start_of set d kept stays = start_by set d kept (λ e. cond stays (started e) (stopped e))
