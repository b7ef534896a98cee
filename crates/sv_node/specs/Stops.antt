-- What the journal of a node stores, and what a stop leaves of it.
use Rattle.std.specs.Prelude.{◌⊎◌, ℕ, List, ◌++◌, map}
use Rattle.sv_journal.specs.Disk.{LeavesOnly}
use Rattle.sv_journal.specs.Format.{OpensOn, Opens, OpensEither}
use Rattle.sv_journal.specs.Journal.{JournalView, Holds, disk_a, disk_b}
use Rattle.sv_model.specs.declared.node.Setting.{Setting}
use Rattle.sv_model.specs.declared.record.Record.{Record}
use Rattle.sv_model.specs.NodeState.{Durable}
use Rattle.sv_record.specs.Record.{spelling}
use Rattle.sv_node.specs.Records.{Replays}

-- both disks tell what their bytes are
abbrev pub TellsBoth : {D : Type 0} → (D → Type 0) → JournalView D → Type 0
TellsBoth tells journal = tells journal.current × tells journal.other

-- the journal's entries, all of them durable, are records that give this
pub record Stores {D : Type 0} (seen : D → List ℕ) (may_leave : D → List ℕ → Type 0) (journal : JournalView D) (set : Setting) (d : Durable) : Type 0 where
  pub entries : List (List ℕ)
  pub holds : Holds seen may_leave journal entries
  pub replays : Replays set entries d

-- the image of the current disk, beside that of the other one, opens with records that give this
pub record RestoresOn (set : Setting) (current other : List ℕ) (d : Durable) : Type 0 where
  pub entries : List (List ℕ)
  pub opens : OpensOn current other entries
  pub replays : Replays set entries d

-- the images of the disks A and B open with records that give this
pub record Restores (set : Setting) (a b : List ℕ) (d : Durable) : Type 0 where
  pub entries : List (List ℕ)
  pub opens : Opens a b entries
  pub replays : Replays set entries d

-- the image of the current disk, beside that of the other one, gives the state before, or that after
abbrev pub RestoresEither : Setting → List ℕ → Durable → Durable → List ℕ → Type 0
RestoresEither set other before after image = RestoresOn set image other before ⊎ RestoresOn set image other after

-- whatever a stop now leaves of the two disks gives the state before, or that after
abbrev pub LeavesEither : {D : Type 0} → (D → List ℕ → Type 0) → JournalView D → Setting → Durable → Durable → Type 0
LeavesEither may_leave journal set before after =
    (a b : List ℕ) → may_leave (disk_a journal) a → may_leave (disk_b journal) b → Restores set a b before ⊎ Restores set a b after

-- a stop at any moment leaves, of the current disk of a journal, beside the other one, the entries that it holds, or these with
-- all of the records after them, and nothing else
abbrev pub LeavesAdded : {D : Type 0} → (D → List ℕ) → (D → List ℕ → Type 0) → (D → ℕ) → (D → ℕ → List ℕ → Type 0) → (old new : JournalView D) → List Record
    → Type 0
LeavesAdded seen may_leave moment left_since old new records =
    (entries : List (List ℕ)) → Holds seen may_leave old entries
    → LeavesOnly moment left_since old.current new.current (OpensEither (seen old.other) entries (entries ++ map spelling records))
