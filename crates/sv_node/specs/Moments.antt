-- What a stop leaves of the disks of a node at any moment while it runs. Its calls write one disk at a time, and beside it the other one
-- stands still, with nothing to lose.
use Rattle.std.specs.Prelude.{◌≡◌, ◌⊎◌, ℕ, List, [], ◌∷◌}
use Rattle.sv_journal.specs.Disk.{Only, LeavesOnly}
use Rattle.sv_journal.specs.Journal.{disk_a, disk_b}
use Rattle.sv_model.specs.declared.event.Told.{Told}
use Rattle.sv_model.specs.declared.node.Setting.{Setting}
use Rattle.sv_model.specs.Engine.{EngineMeaning}
use Rattle.sv_model.specs.NodeState.{Durable}
use Rattle.sv_node.specs.History.{Stand, Leads, halted, stand_of}
use Rattle.sv_node.specs.Node.{engine_of, setting_of, journal_of}
use Rattle.sv_node.specs.Opened.{StartsWithoutLoss}
use Rattle.sv_node.specs.Stops.{TellsBoth, Restores}
use Rattle.sv_node.specs.declared.node.Node.{Node}

-- ---- moments of two disks

-- the disks A and B
abbrev pub Disks : Type 0 → Type 0
Disks D = D × D

-- One disk was written, and the other one stood still, of which a stop leaves its bytes and nothing else: a stop at any moment left an
-- image of the one that, beside the bytes of the other, has P.
pub record WritesBeside {D : Type 0} (seen : D → List ℕ) (may_leave : D → List ℕ → Type 0) (moment : D → ℕ) (left_since : D → ℕ → List ℕ → Type 0)
    (P : List ℕ → List ℕ → Type 0) (written kept written' kept' : D) : Type 0 where
  pub stands : kept' ≡ kept
  pub apart : Only (seen kept) (may_leave kept)
  pub images : LeavesOnly moment left_since written written' (λ image. P image (seen kept))

-- the same of the disks A and B, the one or the other, where P says of the images of both in this order
abbrev pub WritesOneOf : {D : Type 0} → (D → List ℕ) → (D → List ℕ → Type 0) → (D → ℕ) → (D → ℕ → List ℕ → Type 0) → (List ℕ → List ℕ → Type 0)
    → Disks D → Disks D → Type 0
WritesOneOf seen may_leave moment left_since P old new =
    WritesBeside seen may_leave moment left_since P old.0 old.1 new.0 new.1
    ⊎ WritesBeside seen may_leave moment left_since (λ image other. P other image) old.1 old.0 new.1 new.0

-- one stretch of time after the other, from these disks over those between to the last ones
abbrev pub AreStretches : {D : Type 0} → (D → List ℕ) → (D → List ℕ → Type 0) → (D → ℕ) → (D → ℕ → List ℕ → Type 0) → (List ℕ → List ℕ → Type 0)
    → Disks D → List (Disks D) → Disks D → Type 0
AreStretches seen may_leave moment left_since P old [] new = new ≡ old
AreStretches seen may_leave moment left_since P old (next ∷ nexts) new =
    WritesOneOf seen may_leave moment left_since P old next × AreStretches seen may_leave moment left_since P next nexts new

-- a stop at any moment since then leaves images of both that have P
pub record LeavesBoth {D : Type 0} (seen : D → List ℕ) (may_leave : D → List ℕ → Type 0) (moment : D → ℕ) (left_since : D → ℕ → List ℕ → Type 0)
    (P : List ℕ → List ℕ → Type 0) (old new : Disks D) : Type 0 where
  pub between : List (Disks D)
  pub are : AreStretches seen may_leave moment left_since P old between new

-- ---- of a node that runs

abbrev pub disks_of : {E D : Type 0} → Node E D → Disks D
disks_of n = (disk_a (journal_of n), disk_b (journal_of n))

-- the images of the disks A and B give what some calls lead to from here, of which requests come under numbers above this
pub record Reaches (m : EngineMeaning) (set : Setting) (low : ℕ) (from : Stand) (a b : List ℕ) : Type 0 where
  pub durable : Durable
  pub gives : Restores set a b durable
  pub high : ℕ
  pub told : List Told
  pub leads : Leads m set low high from (halted durable) told

-- at any moment of what was done from one state of a node to another
abbrev pub RunsWithoutLoss : {E D : Type 0} → (E → EngineMeaning) → (D → Type 0) → (D → List ℕ) → (D → List ℕ → Type 0) → (D → ℕ)
    → (D → ℕ → List ℕ → Type 0) → ℕ → Node E D → Node E D → Type 0
RunsWithoutLoss meaning tells seen may_leave moment left_since low old new =
    TellsBoth tells (journal_of old)
    → LeavesBoth seen may_leave moment left_since (Reaches (meaning (engine_of old)) (setting_of old) low (stand_of old)) (disks_of old) (disks_of new)

-- ---- of a process

-- the images give what some calls lead to from what was durable before, whatever numbers requests had then
pub record ReachesFrom (m : EngineMeaning) (set : Setting) (d : Durable) (a b : List ℕ) : Type 0 where
  pub durable : Durable
  pub gives : Restores set a b durable
  pub high : ℕ
  pub told : List Told
  pub leads : (low : ℕ) → Leads m set low high (halted d) (halted durable) told

-- At any moment of a process's life: inside its opening a stop leaves what a stop before could leave, or that, or the same after one more
-- start; from then on what some calls lead to, the start among them.
pub record LivesWithoutLoss {D : Type 0} (seen : D → List ℕ) (may_leave : D → List ℕ → Type 0) (moment : D → ℕ) (left_since : D → ℕ → List ℕ → Type 0)
    (m : EngineMeaning) (set : Setting) (d : Durable) (a b a' b' : D) : Type 0 where
  -- the disks as the opening hands them on
  pub opened : Disks D
  pub starts : StartsWithoutLoss seen may_leave moment left_since set d a b opened.0 opened.1
  pub runs : LeavesBoth seen may_leave moment left_since (ReachesFrom m set d) opened (a', b')
