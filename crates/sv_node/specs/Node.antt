-- A running node: what holds between its calls, and what a step of it does.
use Rattle.std.specs.Prelude.{◌≡◌, ℕ, ◌+◌, ◌<◌, max, length, false, IsTrue, Result, Ok, Err, List, [], Option, Some, None}
use Rattle.std.specs.Option.{option_to_list}
use Rattle.sv_journal.specs.Disk.{LeavesOnly, TellsOn, HasRisen}
use Rattle.sv_journal.specs.Journal.{JournalView}
use Rattle.sv_journal.specs.declared.limits.TheConstants.{FILE_LIMIT}
use Rattle.sv_core.specs.Core as core
use Rattle.sv_model.specs.declared.key.Moment.{Moment}
use Rattle.sv_model.specs.declared.node.Setting.{Setting}
use Rattle.sv_model.specs.declared.input.Input.{Input}
use Rattle.sv_model.specs.declared.output.Output.{Output}
use Rattle.sv_model.specs.declared.record.Record.{Record}
use Rattle.sv_model.specs.declared.site.StepFault.{StepFault}
use Rattle.sv_model.specs.declared.site.StepFault.TheVariants.{Failed, Full, Device, Memory}
use Rattle.sv_model.specs.Engine.{EngineMeaning}
use Rattle.sv_model.specs.Decision.{Decision}
use Rattle.sv_model.specs.Node.{decided}
use Rattle.sv_model.specs.NodeState.{Durable, Node as State}
use Rattle.sv_model.specs.Ranges.{IsSetting, IsRanged}
use Rattle.sv_model.specs.Step.{View, IsStep}
use Rattle.sv_record.specs.Record.{spelling}
use Rattle.sv_node.specs.Stops.{TellsBoth, Stores, RestoresEither, LeavesEither, LeavesAdded}
use Rattle.sv_node.specs.declared.node.Node.{Node}
use Rattle.sv_node.specs.declared.session_counts.SessionCounts.{SessionCounts}

-- a node with its engine's meaning, and what its listeners have noted
abbrev pub view_of : {E D : Type 0} → (E → EngineMeaning) → (E → List (List ℕ)) → Node E D → View
view_of meaning heard n = core.view_of meaning heard n.core

abbrev pub engine_of : {E D : Type 0} → Node E D → E
engine_of n = core.engine_of n.core

abbrev pub setting_of : {E D : Type 0} → Node E D → Setting
setting_of n = core.setting_of n.core

-- what it keeps
abbrev pub state_of : {E D : Type 0} → Node E D → State
state_of n = core.node_at n.core

-- what its records give
abbrev pub durable_of : {E D : Type 0} → Node E D → Durable
durable_of n = core.durable_at n.core

abbrev pub journal_of : {E D : Type 0} → Node E D → JournalView D
journal_of n = n.journal

-- how many records were replayed when it was opened
abbrev pub restored_of : {E D : Type 0} → Node E D → ℕ
restored_of n = n.restored

abbrev pub counts_of : {E D : Type 0} → Node E D → SessionCounts
counts_of n = n.counts

-- what holds between the calls of a node
pub record IsNode {E D : Type 0} (valid : E → Type 0) (tells : D → Type 0) (seen : D → List ℕ) (may_leave : D → List ℕ → Type 0) (n : Node E D) : Type 0 where
  pub engine : valid (engine_of n)
  pub setting : IsSetting (setting_of n)
  pub ranged : IsRanged (state_of n)
  -- while no disk has failed, the journal's entries are records that give what the node keeps
  pub stored : IsTrue (journal_of n).live → TellsBoth tells (journal_of n) → Stores seen may_leave (journal_of n) (setting_of n) (durable_of n)

-- the decision of a node at an input
abbrev pub decided_at : {E D : Type 0} → (E → EngineMeaning) → Node E D → Moment → Input → Decision
decided_at meaning n moment input = decided (meaning (engine_of n)) (setting_of n) (state_of n) moment input

-- nothing has changed, and nothing is told
pub record IsUntouched {E D : Type 0} (meaning : E → EngineMeaning) (heard : E → List (List ℕ)) (old new : Node E D) : Type 0 where
  pub view : view_of meaning heard new ≡ view_of meaning heard old
  pub journal : journal_of new ≡ journal_of old

-- where the entries of a file of this length end here, it would be too long with this record, if there is one
abbrev pub IsTooLongAt : (len end : ℕ) → Option Record → Type 0
IsTooLongAt len end None = ⊥
IsTooLongAt len end (Some r) = FILE_LIMIT < max len (end + 6 + length (spelling r))

-- with this record, if there is one, the file of the journal would be too long
abbrev pub IsTooLong : {D : Type 0} → JournalView D → Option Record → Type 0
IsTooLong journal entry = IsTooLongAt journal.len journal.end entry

-- where the entries of a journal end after a record, if there is one: it is one entry more, and the only one
abbrev pub end_behind : {D : Type 0} → JournalView D → Option Record → ℕ
end_behind journal None = journal.end
end_behind journal (Some r) = journal.end + 5 + length (spelling r)

-- the journal has got this record, if there is one, and nothing else
pub record HasAdded {D : Type 0} (old new : JournalView D) (entry : Option Record) : Type 0 where
  pub end : new.end ≡ end_behind old entry
  pub generation : new.generation ≡ old.generation

-- what a step does, by its answer
abbrev pub Ends : {E D : Type 0} → (E → EngineMeaning) → (E → List (List ℕ)) → (D → ℕ) → Node E D → Decision → Result (List Output) StepFault → Node E D
    → Type 0
Ends meaning heard failed old d (Ok outputs) new =
    IsStep (view_of meaning heard old) d outputs (view_of meaning heard new) × IsTrue (journal_of new).live × HasAdded (journal_of old) (journal_of new) d.entry
Ends meaning heard failed old d (Err Failed) new = IsUntouched meaning heard old new × ((journal_of old).live ≡ false)
Ends meaning heard failed old d (Err Full) new = IsUntouched meaning heard old new × IsTooLong (journal_of old) d.entry
Ends meaning heard failed old d (Err Memory) new = IsUntouched meaning heard old new
Ends meaning heard failed old d (Err Device) new =
    (view_of meaning heard new ≡ view_of meaning heard old) × ((journal_of new).live ≡ false)
    × HasRisen (failed (journal_of old).current) (failed (journal_of new).current)

-- A step of a node: what it does, and what a stop at any moment of it, or after it, leaves of the disks. Whatever its
-- answer, that is the state before the decision or the state after it. A node whose disk has failed before answers Failed.
pub record IsNodeStep {E D : Type 0} (meaning : E → EngineMeaning) (heard : E → List (List ℕ)) (tells : D → Type 0) (seen : D → List ℕ)
    (may_leave : D → List ℕ → Type 0) (moment : D → ℕ) (left_since : D → ℕ → List ℕ → Type 0) (failed : D → ℕ)
    (old : Node E D) (d : Decision) (answer : Result (List Output) StepFault) (new : Node E D) : Type 0 where
  pub ends : Ends meaning heard failed old d answer new
  pub failed_before : (journal_of old).live ≡ false → answer ≡ Err Failed
  pub setting : setting_of new ≡ setting_of old
  pub tells_on : TellsOn tells (journal_of old).current (journal_of new).current
  pub other : (journal_of new).other ≡ (journal_of old).other
  pub on_a : (journal_of new).on_a ≡ (journal_of old).on_a
  pub any_moment : IsTrue (journal_of old).live → TellsBoth tells (journal_of old)
      → LeavesOnly moment left_since (journal_of old).current (journal_of new).current
      (RestoresEither (setting_of old) (seen (journal_of old).other) (durable_of old) d.durable)
  pub left : IsTrue (journal_of old).live → TellsBoth tells (journal_of old)
      → LeavesEither may_leave (journal_of new) (setting_of old) (durable_of old) d.durable
  -- whatever its answer, no record but the decision's is written
  pub writes : IsTrue (journal_of old).live → TellsBoth tells (journal_of old)
      → LeavesAdded seen may_leave moment left_since (journal_of old) (journal_of new) (option_to_list d.entry)
  pub generation : (journal_of new).generation ≡ (journal_of old).generation

abbrev pub NodeSteps : {E D : Type 0} → (E → EngineMeaning) → (E → List (List ℕ)) → (D → Type 0) → (D → List ℕ) → (D → List ℕ → Type 0) → (D → ℕ)
    → (D → ℕ → List ℕ → Type 0) → (D → ℕ)
    → Node E D → Moment → Input → Result (List Output) StepFault → Node E D → Type 0
NodeSteps meaning heard tells seen may_leave moment left_since failed old at input answer new =
    IsNodeStep meaning heard tells seen may_leave moment left_since failed old (decided_at meaning old at input) answer new

-- a node that has just started: nothing waits at it, its engine means what it meant, and its listeners were told nothing
pub record IsStarted {E D : Type 0} (meaning : E → EngineMeaning) (heard : E → List (List ℕ)) (n : Node E D) (engine : E) (set : Setting) : Type 0 where
  pub meaning_is : meaning (engine_of n) ≡ meaning engine
  pub heard_is : heard (engine_of n) ≡ heard engine
  pub setting : setting_of n ≡ set
  pub parked : (state_of n).parked ≡ []
  pub next_want : (state_of n).next_want ≡ 1
  pub live : IsTrue (journal_of n).live
