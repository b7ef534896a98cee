-- The calls of a node in code, as calls that are seen from outside.
use Rattle.std.specs.Prelude.{◌≡◌, ℕ, true, false, Result, Ok, Err, List, []}
use Rattle.sv_journal.specs.declared.journal_fault.JournalFault.{JournalFault}
use Rattle.sv_journal.specs.declared.journal_fault.JournalFault.TheVariants as journal
use Rattle.sv_model.specs.declared.event.Told.{Told}
use Rattle.sv_model.specs.declared.input.Input.{Input}
use Rattle.sv_model.specs.declared.key.Moment.{Moment}
use Rattle.sv_model.specs.declared.node.Setting.{Setting}
use Rattle.sv_model.specs.declared.output.Output.{Output}
use Rattle.sv_model.specs.declared.site.StepFault.{StepFault}
use Rattle.sv_model.specs.declared.site.StepFault.TheVariants as step
use Rattle.sv_model.specs.Decision.{Decision}
use Rattle.sv_model.specs.Engine.{EngineMeaning, heard_all}
use Rattle.sv_model.specs.NodeState.{Durable}
use Rattle.sv_node.specs.Call.{Open, Step, Compact, Done, ending_of, After, quiet, kept, carried_out, StopsStep, Does, runs_behind}
use Rattle.sv_node.specs.Node.{engine_of, setting_of, state_of, durable_of, journal_of, decided_at}
use Rattle.sv_node.specs.declared.node.Node.{Node}

-- after a failed disk it is what the next opening may find, one of two
abbrev pub IsAfterStep : {E D : Type 0} → Node E D → Decision → Result (List Output) StepFault → Node E D → After → Type 0
IsAfterStep old d (Ok outputs) new a = (a.node ≡ state_of new) × (a.outputs ≡ outputs) × (a.told ≡ (carried_out d).told)
IsAfterStep old d (Err step.Failed) new a = a ≡ quiet (state_of new)
IsAfterStep old d (Err step.Full) new a = a ≡ quiet (state_of new)
IsAfterStep old d (Err step.Memory) new a = a ≡ quiet (state_of new)
IsAfterStep old d (Err step.Device) new a = StopsStep (durable_of old) d a

-- what listeners were told
abbrev pub told_by : Decision → Result (List Output) StepFault → List Told
told_by d (Ok outputs) = (carried_out d).told
told_by d (Err fault) = []

-- a step
pub record IsStepCall {E D : Type 0} (meaning : E → EngineMeaning) (heard : E → List (List ℕ)) (old : Node E D) (at : Moment) (input : Input)
    (answer : Result (List Output) StepFault) (new : Node E D) : Type 0 where
  pub does : (a : After) → IsAfterStep old (decided_at meaning old at input) answer new a
      → Does (meaning (engine_of old)) (setting_of old) (journal_of old).live (state_of old) (Step at input (ending_of answer)) a
  pub runs : (journal_of new).live ≡ runs_behind (journal_of old).live (Step at input (ending_of answer))
  pub setting : setting_of new ≡ setting_of old
  pub meaning_is : meaning (engine_of new) ≡ meaning (engine_of old)
  pub heard_is : heard (engine_of new) ≡ heard_all (meaning (engine_of old)) (heard (engine_of old)) (told_by (decided_at meaning old at input) answer)

-- after a failed disk it is what the next opening finds
abbrev pub IsAfterCompaction : {E D T : Type 0} → Result T JournalFault → Node E D → After → Type 0
IsAfterCompaction (Ok x) new a = a ≡ quiet (state_of new)
IsAfterCompaction (Err journal.Failed) new a = a ≡ quiet (state_of new)
IsAfterCompaction (Err journal.Damaged) new a = a ≡ quiet (state_of new)
IsAfterCompaction (Err journal.Full) new a = a ≡ quiet (state_of new)
IsAfterCompaction (Err journal.Memory) new a = a ≡ quiet (state_of new)
IsAfterCompaction (Err journal.Device) new a = a ≡ quiet (kept (durable_of new))

-- a compaction, whatever engines mean
pub record IsCompactionCall {E D T : Type 0} (meaning : E → EngineMeaning) (heard : E → List (List ℕ)) (old : Node E D)
    (answer : Result T JournalFault) (new : Node E D) : Type 0 where
  pub does : (m : EngineMeaning) (a : After) → IsAfterCompaction answer new a
      → Does m (setting_of old) (journal_of old).live (state_of old) (Compact (ending_of answer)) a
  pub runs : (journal_of new).live ≡ runs_behind (journal_of old).live (Compact (ending_of answer))
  pub setting : setting_of new ≡ setting_of old
  pub meaning_is : meaning (engine_of new) ≡ meaning (engine_of old)
  pub heard_is : heard (engine_of new) ≡ heard (engine_of old)

-- an opening of disks that give this
pub record IsOpenCall {E D : Type 0} (set : Setting) (d : Durable) (n : Node E D) : Type 0 where
  pub does : (m : EngineMeaning) → Does m set false (kept d) (Open Done) (quiet (state_of n))
  pub runs : (journal_of n).live ≡ true
  pub setting : setting_of n ≡ set
