-- All that a node keeps durably, as records that give it again.
use Rattle.std.specs.Prelude.{◌≡◌, ℕ, Option, Some, None, List, [], ◌∷◌, map}
use Rattle.std.specs.FinMap.{entries}
use Rattle.sv_model.specs.declared.key.Key.{Key}
use Rattle.sv_model.specs.declared.state.KeyState.{KeyState}
use Rattle.sv_model.specs.declared.node.Setting.{Setting}
use Rattle.sv_model.specs.declared.node.Stage.{Stage}
use Rattle.sv_model.specs.declared.node.Stage.TheVariants.{Blank, Snapshot}
use Rattle.sv_model.specs.declared.record.Record.{Record}
use Rattle.sv_model.specs.declared.record.Record.TheVariants.{State, Counters, Counted}
use Rattle.sv_model.specs.NodeState.{Durable}
use Rattle.sv_model.specs.Replay.{blank, replayed}
use Rattle.sv_model.specs.Fitting.{stage_behind, AllFit}

-- how far records have come, one after the other
abbrev pub staged : Stage → List Record → Stage
staged stage [] = stage
staged stage (r ∷ rs) = staged (stage_behind r stage) rs

-- what is known of a key
abbrev pub state_record : Key × KeyState → Record
state_record e = State e.0 e.1

-- the counters, and whose keys are forgotten
abbrev pub head_by : Option ℕ → ℕ → ℕ → Record
head_by None boot next = Counters boot next
head_by (Some home) boot next = Counted home boot next

abbrev pub head_of : Durable → Record
head_of d = head_by d.home d.boot d.next

-- the counters, then what is known of each key in order
abbrev pub snapshot_of : Durable → List Record
snapshot_of d = head_of d ∷ map state_record (entries d.keys)

-- its records may stand after one another from the first on, give what is kept durably, and let records of any kind but a
-- second head follow
pub record IsWhole (set : Setting) (d : Durable) : Type 0 where
  pub fits : AllFit set Blank blank (snapshot_of d)
  pub gives : replayed blank (snapshot_of d) ≡ d
  pub stage : staged Blank (snapshot_of d) ≡ Snapshot
