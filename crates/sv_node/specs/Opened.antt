-- What a stop leaves of the disks of a node that was to be opened.
use Rattle.std.specs.Prelude.{◌≡◌, ◌⊎◌, ℕ, List, [], ◌∷◌, ◌++◌, Some}
use Rattle.sv_journal.specs.Disk.{Only, LeavesOnly}
use Rattle.sv_model.specs.declared.node.Setting.{Setting}
use Rattle.sv_model.specs.NodeState.{Durable}
use Rattle.sv_model.specs.Replay.{boot_record, applied}
use Rattle.sv_journal.specs.Journal.{JournalView, Holds, OpensWithoutLoss, disk_a, disk_b}
use Rattle.sv_record.specs.Record.{spelling}
use Rattle.sv_node.specs.Node.{IsTooLong, HasAdded}
use Rattle.sv_node.specs.Stops.{Stores, Restores}

-- what is durable after one more start
abbrev pub restarted : Setting → Durable → Durable
restarted set d = applied (boot_record set d) d

-- the images of the disks A and B give this, or that after one more start
abbrev pub GivesStart : Setting → Durable → List ℕ → List ℕ → Type 0
GivesStart set d a b = Restores set a b d ⊎ Restores set a b (restarted set d)

-- Whatever a stop now leaves of two disks, a stop could leave before, or it gives what the images gave, or that after one
-- more start.
abbrev pub LeavesStart : {D : Type 0} → (D → List ℕ → Type 0) → Setting → D → D → Durable → D → D → Type 0
LeavesStart may_leave set a b d new_a new_b =
    (x y : List ℕ) → may_leave new_a x → may_leave new_b y → (may_leave a x × may_leave b y) ⊎ GivesStart set d x y

-- Whatever a stop now leaves of two disks, a stop could leave before, or it gives what the images gave, and no start.
abbrev pub LeavesUnstarted : {D : Type 0} → (D → List ℕ → Type 0) → Setting → D → D → Durable → D → D → Type 0
LeavesUnstarted may_leave set a b d new_a new_b =
    (x y : List ℕ) → may_leave new_a x → may_leave new_b y → (may_leave a x × may_leave b y) ⊎ Restores set x y d

-- What a stop at any moment leaves of two disks one of which alone is written. Of each of them it is what a stop before
-- could leave, or, of the one that is written, an image that beside the other one, as that reads, gives what it should;
-- and such an image is left only once the other one is synced, so that a stop leaves nothing else of that.
pub record WritesOne {D : Type 0} (seen : D → List ℕ) (may_leave : D → List ℕ → Type 0) (moment : D → ℕ) (left_since : D → ℕ → List ℕ → Type 0)
    (gives : List ℕ → List ℕ → Type 0) (written kept written' kept' : D) : Type 0 where
  pub of_written : LeavesOnly moment left_since written written' (λ image. may_leave written image ⊎ gives image (seen kept'))
  pub of_kept : LeavesOnly moment left_since kept kept' (may_leave kept)
  pub apart : Only (seen kept') (may_leave kept') ⊎ LeavesOnly moment left_since written written' (may_leave written)

-- What a stop at any moment of an opening of the disks A and B leaves: of both of them what a stop before could leave, or
-- images that give what the disks gave, or that after one more start.
abbrev pub StartsWithoutLoss : {D : Type 0} → (D → List ℕ) → (D → List ℕ → Type 0) → (D → ℕ) → (D → ℕ → List ℕ → Type 0) → Setting → Durable → D → D → D → D
    → Type 0
StartsWithoutLoss seen may_leave moment left_since set d a b a' b' =
    WritesOne seen may_leave moment left_since (λ image other. GivesStart set d image other) a b a' b'
    ⊎ WritesOne seen may_leave moment left_since (λ image other. GivesStart set d other image) b a b' a'

-- the disks A and B are those of a journal that stores this and has no room for one more start
pub record LacksRoom {D : Type 0} (seen : D → List ℕ) (may_leave : D → List ℕ → Type 0) (set : Setting) (d : Durable) (a b : D) : Type 0 where
  pub journal : JournalView D
  pub on_a : disk_a journal ≡ a
  pub on_b : disk_b journal ≡ b
  pub stores : Stores seen may_leave journal set d
  pub too_long : IsTooLong journal (Some (boot_record set d))

-- The journal that was opened on the disks A and B, with the entries that their images have, has got the record of one more
-- start after them, and nothing else.
pub record AddsStart {D : Type 0} (seen : D → List ℕ) (may_leave : D → List ℕ → Type 0) (moment : D → ℕ) (left_since : D → ℕ → List ℕ → Type 0)
    (set : Setting) (d : Durable) (entries : List (List ℕ)) (a b : D) (journal : JournalView D) : Type 0 where
  -- as it was opened, before anything was added
  pub opened : JournalView D
  pub holds_opened : Holds seen may_leave opened entries
  pub moments : OpensWithoutLoss seen may_leave moment left_since a b (disk_a opened) (disk_b opened)
  pub added : HasAdded opened journal (Some (boot_record set d))
  pub holds : Holds seen may_leave journal (entries ++ spelling (boot_record set d) ∷ [])

-- the disks A and B are those of a journal with these entries and no others
pub record Contain {D : Type 0} (seen : D → List ℕ) (may_leave : D → List ℕ → Type 0) (entries : List (List ℕ)) (a b : D) : Type 0 where
  pub journal : JournalView D
  pub on_a : disk_a journal ≡ a
  pub on_b : disk_b journal ≡ b
  pub holds : Holds seen may_leave journal entries
