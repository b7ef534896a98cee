-- What a compaction of a node does, and what a stop leaves of the disks: the one state that they gave before.
use Rattle.std.specs.Prelude.{◌≡◌, ◌⊎◌, ℕ, ◌+◌, ◌-◌, ◌^◌, ◌<◌, List, length, map, cond, not, false, IsTrue, Result, Ok, Err}
use Rattle.std.specs.List.{flat_map}
use Rattle.sv_core.specs.Snapshot.{snapshot_of}
use Rattle.sv_journal.specs.Disk.{LeavesOnly, TellsOn, HasRisen}
use Rattle.sv_journal.specs.Format.{entry, OpensReplaced}
use Rattle.sv_journal.specs.Journal.{JournalView, Holds, disk_a, disk_b}
use Rattle.sv_journal.specs.declared.limits.TheConstants.{FILE_LIMIT}
use Rattle.sv_journal.specs.declared.journal_fault.JournalFault.{JournalFault}
use Rattle.sv_journal.specs.declared.journal_fault.JournalFault.TheVariants.{Failed, Damaged, Full, Device, Memory}
use Rattle.sv_model.specs.declared.node.Setting.{Setting}
use Rattle.sv_model.specs.declared.record.Record.{Record}
use Rattle.sv_model.specs.Engine.{EngineMeaning}
use Rattle.sv_model.specs.NodeState.{Durable}
use Rattle.sv_record.specs.Record.{spelling}
use Rattle.sv_node.specs.Node.{view_of, setting_of, durable_of, journal_of, IsUntouched}
use Rattle.sv_node.specs.Stops.{TellsBoth, RestoresOn, Restores}
use Rattle.sv_node.specs.declared.node.Node.{Node}

-- after a compaction, the disk to which it wrote: the one that wasn't current before it
abbrev pub written : {D : Type 0} → JournalView D → JournalView D → D
written old new = cond old.on_a (disk_b new) (disk_a new)

-- after a compaction, the disk to which it didn't write
abbrev pub spared : {D : Type 0} → JournalView D → JournalView D → D
spared old new = cond old.on_a (disk_a new) (disk_b new)

-- the image of one disk, beside that of the other: whichever of them counts, it gives this
abbrev pub RestoresBeside : Setting → List ℕ → Durable → List ℕ → Type 0
RestoresBeside set other d image = RestoresOn set other image d ⊎ RestoresOn set image other d

-- whatever a stop now leaves of the two disks gives this
abbrev pub LeavesSame : {D : Type 0} → (D → List ℕ → Type 0) → JournalView D → Setting → Durable → Type 0
LeavesSame may_leave journal set d = (a b : List ℕ) → may_leave (disk_a journal) a → may_leave (disk_b journal) b → Restores set a b d

-- the length of the file of a journal that has these records and no others
abbrev pub len_with : List Record → ℕ
len_with records = 17 + length (flat_map entry (map spelling records))

-- the generations are spent, or the file would be too long
abbrev pub HasNoRoom : {D : Type 0} → JournalView D → List Record → Type 0
HasNoRoom journal records = (journal.generation ≡ 2 ^ 64 - 1) ⊎ (FILE_LIMIT < len_with records)

-- the journal has been written once, to the disk that wasn't current, which is current now
pub record HasTurned {D : Type 0} (old new : JournalView D) : Type 0 where
  pub generation : new.generation ≡ old.generation + 1
  pub on_a : new.on_a ≡ not old.on_a

-- a stop at any moment leaves, of the disk that isn't current, beside the current one, the entries that the journal holds, or
-- these records and no others
abbrev pub LeavesReplaced : {D : Type 0} → (D → List ℕ) → (D → List ℕ → Type 0) → (D → ℕ) → (D → ℕ → List ℕ → Type 0) → (old new : JournalView D) → List Record
    → Type 0
LeavesReplaced seen may_leave moment left_since old new records =
    (entries : List (List ℕ)) → Holds seen may_leave old entries
    → LeavesOnly moment left_since old.other (written old new) (OpensReplaced (seen old.current) entries (map spelling records))

-- what a compaction does, by its answer: it tells nothing, and no call of it answers Damaged
abbrev pub CompactionEnds : {E D T : Type 0} → (E → EngineMeaning) → (E → List (List ℕ)) → (D → ℕ) → Node E D → Result T JournalFault → Node E D → Type 0
CompactionEnds meaning heard failed old (Ok _) new =
    (view_of meaning heard new ≡ view_of meaning heard old) × IsTrue (journal_of new).live × ((journal_of new).len ≡ len_with (snapshot_of (durable_of old)))
    × HasTurned (journal_of old) (journal_of new)
CompactionEnds meaning heard failed old (Err Failed) new = IsUntouched meaning heard old new × ((journal_of old).live ≡ false)
CompactionEnds meaning heard failed old (Err Damaged) new = ⊥
CompactionEnds meaning heard failed old (Err Full) new = IsUntouched meaning heard old new × HasNoRoom (journal_of old) (snapshot_of (durable_of old))
CompactionEnds meaning heard failed old (Err Memory) new = IsUntouched meaning heard old new
CompactionEnds meaning heard failed old (Err Device) new =
    (view_of meaning heard new ≡ view_of meaning heard old) × ((journal_of new).live ≡ false)
    × HasRisen (failed (journal_of old).other) (failed (journal_of new).other)

-- A compaction: what it does, and what a stop at any moment of it, or after it, leaves of the disks. Whatever its answer,
-- that is the state that the node keeps. A node whose disk has failed before answers Failed.
pub record IsCompaction {E D T : Type 0} (meaning : E → EngineMeaning) (heard : E → List (List ℕ)) (tells : D → Type 0) (seen : D → List ℕ)
    (may_leave : D → List ℕ → Type 0) (moment : D → ℕ) (left_since : D → ℕ → List ℕ → Type 0) (failed : D → ℕ)
    (old : Node E D) (answer : Result T JournalFault) (new : Node E D) : Type 0 where
  pub ends : CompactionEnds meaning heard failed old answer new
  pub failed_before : (journal_of old).live ≡ false → answer ≡ Err Failed
  pub setting : setting_of new ≡ setting_of old
  pub tells_on : TellsOn tells (journal_of old).other (written (journal_of old) (journal_of new))
  pub kept : spared (journal_of old) (journal_of new) ≡ (journal_of old).current
  pub any_moment : IsTrue (journal_of old).live → TellsBoth tells (journal_of old)
      → LeavesOnly moment left_since (journal_of old).other (written (journal_of old) (journal_of new))
      (RestoresBeside (setting_of old) (seen (journal_of old).current) (durable_of old))
  pub left : IsTrue (journal_of old).live → TellsBoth tells (journal_of old) → LeavesSame may_leave (journal_of new) (setting_of old) (durable_of old)
  -- whatever its answer, no records but those of the snapshot are written
  pub writes : IsTrue (journal_of old).live → TellsBoth tells (journal_of old)
      → LeavesReplaced seen may_leave moment left_since (journal_of old) (journal_of new) (snapshot_of (durable_of old))
