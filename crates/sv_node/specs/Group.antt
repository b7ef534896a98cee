-- Steps that are made durable together: each is decided on the state after the one before it, and those that are refused
-- change nothing.
use Rattle.std.specs.Prelude.{◌≡◌, ◌⊎◌, ℕ, ◌+◌, ◌≤◌, max, length, map, false, IsTrue, List, [], ◌∷◌, ◌++◌, Option, Result, Ok, Err, ⊤}
use Rattle.std.specs.List.{flat_map}
use Rattle.std.specs.Option.{option_to_list}
use Rattle.sv_core.specs.Decision.{told_held, outputs_held}
use Rattle.sv_core.specs.declared.decision.Held.{Held}
use Rattle.sv_journal.specs.Batch.{Stages, size_of}
use Rattle.sv_journal.specs.Disk.{LeavesOnly, TellsOn, HasRisen}
use Rattle.sv_journal.specs.Format.{entry}
use Rattle.sv_journal.specs.Journal.{JournalView}
use Rattle.sv_journal.specs.declared.batch.Batch.{Batch}
use Rattle.sv_journal.specs.declared.limits.TheConstants.{FILE_LIMIT}
use Rattle.sv_model.specs.declared.event.Told.{Told}
use Rattle.sv_model.specs.declared.input.Input.{Input}
use Rattle.sv_model.specs.declared.key.Moment.{Moment}
use Rattle.sv_model.specs.declared.node.Setting.{Setting}
use Rattle.sv_model.specs.declared.output.Output.{Output}
use Rattle.sv_model.specs.declared.record.Record.{Record}
use Rattle.sv_model.specs.declared.site.StepFault.{StepFault}
use Rattle.sv_model.specs.declared.site.StepFault.TheVariants.{Failed, Full, Device, Memory}
use Rattle.sv_model.specs.Decision.{Decision, left}
use Rattle.sv_model.specs.Engine.{EngineMeaning, heard_all}
use Rattle.sv_model.specs.Node.{decided}
use Rattle.sv_model.specs.NodeState.{Node as State}
use Rattle.sv_model.specs.Site.{with_list}
use Rattle.sv_model.specs.Step.{told}
use Rattle.sv_record.specs.Record.{spelling}
use Rattle.sv_node.specs.Node.{engine_of, setting_of, state_of, durable_of, journal_of, IsTooLongAt, IsUntouched}
use Rattle.sv_node.specs.Records.{Replays}
use Rattle.sv_node.specs.Stops.{TellsBoth, RestoresEither, LeavesEither, LeavesAdded}
use Rattle.sv_node.specs.declared.node.Node.{Node}

-- ---- one of them

abbrev pub Answer : Type 0
Answer = Result (List Output) StepFault

-- it is done, or refused for want of memory, or of room in a file of this length, after the records that end here
abbrev pub IsAnswer : (len end : ℕ) → Decision → Answer → Type 0
IsAnswer len end d (Ok outputs) = outputs ≡ d.outputs
IsAnswer len end d (Err Failed) = ⊥
IsAnswer len end d (Err Full) = IsTooLongAt len end d.entry
IsAnswer len end d (Err Device) = ⊥
IsAnswer len end d (Err Memory) = ⊤

abbrev pub left_by : State → Decision → Answer → State
left_by n d (Ok outputs) = left d
left_by n d (Err fault) = n

abbrev pub entries_by : Decision → Answer → List Record
entries_by d (Ok outputs) = option_to_list d.entry
entries_by d (Err fault) = []

abbrev pub events_by : Decision → Answer → List Told
events_by d (Ok outputs) = told d
events_by d (Err fault) = []

-- what records take in a journal
abbrev pub bytes_of : List Record → ℕ
bytes_of rs = length (flat_map entry (map spelling rs))

-- ---- all of them, one after the other

module _ (m : EngineMeaning) (set : Setting) where
  -- the node after them
  abbrev pub behind : State → List (Moment × Input) → List Answer → State
  behind n [] answers = n
  behind n (i ∷ is) [] = n
  behind n (i ∷ is) (a ∷ answers) = behind (left_by n (decided m set n i.0 i.1) a) is answers

  -- their records
  abbrev pub entries_of : State → List (Moment × Input) → List Answer → List Record
  entries_of n [] answers = []
  entries_of n (i ∷ is) [] = []
  entries_of n (i ∷ is) (a ∷ answers) = entries_by (decided m set n i.0 i.1) a ++ entries_of (left_by n (decided m set n i.0 i.1) a) is answers

  -- what listeners are told
  abbrev pub events_of : State → List (Moment × Input) → List Answer → List Told
  events_of n [] answers = []
  events_of n (i ∷ is) [] = []
  events_of n (i ∷ is) (a ∷ answers) = events_by (decided m set n i.0 i.1) a ++ events_of (left_by n (decided m set n i.0 i.1) a) is answers

  -- each has its answer, where the file of the journal has this length and its entries end here
  abbrev pub Answered : (len end : ℕ) → State → List (Moment × Input) → List Answer → Type 0
  Answered len end n [] [] = ⊤
  Answered len end n [] (a ∷ answers) = ⊥
  Answered len end n (i ∷ is) [] = ⊥
  Answered len end n (i ∷ is) (a ∷ answers) =
      IsAnswer len end (decided m set n i.0 i.1) a × Answered len (end + bytes_of (entries_by (decided m set n i.0 i.1) a))
      (left_by n (decided m set n i.0 i.1) a) is answers

-- ---- in memory alone, before their records are durable

-- what is held of each
abbrev pub outcomes : List (Result Held StepFault) → List Answer
outcomes held = map (with_list outputs_held) held

abbrev pub events_held : Result Held StepFault → List Told
events_held (Ok h) = told_held h
events_held (Err fault) = []

-- the records of the batch fit into the file
abbrev pub FitsIn : {D : Type 0} → JournalView D → Batch → Type 0
FitsIn journal batch = (size_of batch ≡ 1) ⊎ (max journal.len (journal.end + size_of batch) ≤ FILE_LIMIT)

-- with this record, if there is one, after those of the batch the file would be too long
abbrev pub LacksRoom : {D : Type 0} → JournalView D → Batch → Option Record → Type 0
LacksRoom journal batch entry = (end : ℕ) → end + 1 ≡ journal.end + size_of batch → IsTooLongAt journal.len end entry

-- a batch that stages entries stages these records after them
abbrev pub StagesMore : Batch → Batch → List Record → Type 0
StagesMore old new rs = (entries : List (List ℕ)) → Stages old entries → Stages new (entries ++ map spelling rs)

-- these records may stand after those that give the one, and give the other
abbrev pub ReplaysMore : Setting → State → State → List Record → Type 0
ReplaysMore set old new rs = (entries : List (List ℕ)) → Replays set entries old.durable → Replays set (entries ++ map spelling rs) new.durable

-- one step more is held, or it is refused and nothing has changed
pub record TakesOne {D : Type 0} (journal : JournalView D) (m : EngineMeaning) (set : Setting) (n : State) (at : Moment) (input : Input)
    (held : Result Held StepFault) (old_batch batch : Batch) (new : State) : Type 0 where
  pub answer : (end : ℕ) → end + 1 ≡ journal.end + size_of old_batch → IsAnswer journal.len end (decided m set n at input) (with_list outputs_held held)
  pub node : new ≡ left_by n (decided m set n at input) (with_list outputs_held held)
  pub told : events_held held ≡ events_by (decided m set n at input) (with_list outputs_held held)
  pub staged : StagesMore old_batch batch (entries_by (decided m set n at input) (with_list outputs_held held))
  pub replays : ReplaysMore set n new (entries_by (decided m set n at input) (with_list outputs_held held))

-- all of them are held, and their records are in the batch
pub record TakesAll {D : Type 0} (journal : JournalView D) (m : EngineMeaning) (set : Setting) (n : State) (inputs : List (Moment × Input))
    (held : List (Result Held StepFault)) (batch : Batch) (new : State) : Type 0 where
  pub answers : Answered m set journal.len journal.end n inputs (outcomes held)
  pub node : new ≡ behind m set n inputs (outcomes held)
  pub told : flat_map events_held held ≡ events_of m set n inputs (outcomes held)
  pub staged : Stages batch (map spelling (entries_of m set n inputs (outcomes held)))
  pub replays : ReplaysMore set n new (entries_of m set n inputs (outcomes held))

-- ---- durable

-- the journal has got these records, and nothing else
pub record HasAddedAll {D : Type 0} (old new : JournalView D) (entries : List Record) : Type 0 where
  pub end : new.end ≡ old.end + bytes_of entries
  pub generation : new.generation ≡ old.generation

-- what a group does, by its answer
abbrev pub GroupEnds : {E D : Type 0} → (E → EngineMeaning) → (E → List (List ℕ)) → (D → ℕ) → Node E D → List (Moment × Input) → Result (List Answer) StepFault
    → Node E D → Type 0
GroupEnds meaning heard failed old inputs (Ok answers) new =
    Answered (meaning (engine_of old)) (setting_of old) (journal_of old).len (journal_of old).end (state_of old) inputs answers
    × (state_of new ≡ behind (meaning (engine_of old)) (setting_of old) (state_of old) inputs answers)
    × (meaning (engine_of new) ≡ meaning (engine_of old))
    × (heard (engine_of new) ≡ heard_all (meaning (engine_of old)) (heard (engine_of old))
    (events_of (meaning (engine_of old)) (setting_of old) (state_of old) inputs answers))
    × IsTrue (journal_of new).live
    × HasAddedAll (journal_of old) (journal_of new) (entries_of (meaning (engine_of old)) (setting_of old) (state_of old) inputs answers)
GroupEnds meaning heard failed old inputs (Err Failed) new = IsUntouched meaning heard old new × ((journal_of old).live ≡ false)
GroupEnds meaning heard failed old inputs (Err Full) new = ⊥
GroupEnds meaning heard failed old inputs (Err Memory) new = IsUntouched meaning heard old new
-- nobody is told and nothing is put out; what was decided is kept or not, as the next opening finds
GroupEnds meaning heard failed old inputs (Err Device) new =
    ((answers : List Answer) × Answered (meaning (engine_of old)) (setting_of old) (journal_of old).len (journal_of old).end (state_of old) inputs answers
    × (state_of new ≡ behind (meaning (engine_of old)) (setting_of old) (state_of old) inputs answers))
    × (meaning (engine_of new) ≡ meaning (engine_of old)) × (heard (engine_of new) ≡ heard (engine_of old))
    × ((journal_of new).live ≡ false) × HasRisen (failed (journal_of old).current) (failed (journal_of new).current)

-- the records that a group writes, by its answer: those of the steps that are done, or were to be where a disk has failed
abbrev pub GroupWrites : {E D : Type 0} → (E → EngineMeaning) → Node E D → List (Moment × Input) → Result (List Answer) StepFault → Node E D
    → (List Record → Type 0) → Type 0
GroupWrites meaning old inputs (Ok answers) new W = W (entries_of (meaning (engine_of old)) (setting_of old) (state_of old) inputs answers)
GroupWrites meaning old inputs (Err Failed) new W = W []
GroupWrites meaning old inputs (Err Full) new W = W []
GroupWrites meaning old inputs (Err Memory) new W = W []
GroupWrites meaning old inputs (Err Device) new W =
    (answers : List Answer) × Answered (meaning (engine_of old)) (setting_of old) (journal_of old).len (journal_of old).end (state_of old) inputs answers
    × (state_of new ≡ behind (meaning (engine_of old)) (setting_of old) (state_of old) inputs answers)
    × W (entries_of (meaning (engine_of old)) (setting_of old) (state_of old) inputs answers)

-- A group of steps: what it does, and what a stop at any moment of it, or after it, leaves of the disks: the state before
-- all of them or the state after all of them.
pub record IsGroup {E D : Type 0} (meaning : E → EngineMeaning) (heard : E → List (List ℕ)) (tells : D → Type 0) (seen : D → List ℕ)
    (may_leave : D → List ℕ → Type 0) (moment : D → ℕ) (left_since : D → ℕ → List ℕ → Type 0) (failed : D → ℕ)
    (old : Node E D) (inputs : List (Moment × Input)) (answer : Result (List Answer) StepFault) (new : Node E D) : Type 0 where
  pub ends : GroupEnds meaning heard failed old inputs answer new
  pub failed_before : (journal_of old).live ≡ false → answer ≡ Err Failed
  pub setting : setting_of new ≡ setting_of old
  pub tells_on : TellsOn tells (journal_of old).current (journal_of new).current
  pub other : (journal_of new).other ≡ (journal_of old).other
  pub on_a : (journal_of new).on_a ≡ (journal_of old).on_a
  pub any_moment : IsTrue (journal_of old).live → TellsBoth tells (journal_of old)
      → LeavesOnly moment left_since (journal_of old).current (journal_of new).current
      (RestoresEither (setting_of old) (seen (journal_of old).other) (durable_of old) (durable_of new))
  pub left : IsTrue (journal_of old).live → TellsBoth tells (journal_of old)
      → LeavesEither may_leave (journal_of new) (setting_of old) (durable_of old) (durable_of new)
  -- no records but those of its steps are written
  pub writes : IsTrue (journal_of old).live → TellsBoth tells (journal_of old)
      → GroupWrites meaning old inputs answer new (λ records. LeavesAdded seen may_leave moment left_since (journal_of old) (journal_of new) records)
  pub generation : (journal_of new).generation ≡ (journal_of old).generation
