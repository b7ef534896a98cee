-- What the calls of a file leave of it.
use Rattle.std.specs.Prelude.{◌≡◌, ◌≤◌, ℕ, List, length, take}
use Rattle.sv_journal.specs.Disk.{written}

-- a front of these bytes was written from a place on, none of them or all included
pub record HasWrittenFront (at : ℕ) (bytes old new : List ℕ) : Type 0 where
  pub count : ℕ
  pub within : count ≤ length bytes
  pub front : new ≡ written at (take count bytes) old

-- A call that changes nothing: a stop leaves what it could leave, now and since each moment.
pub record IsStill {F : Type 0} (tells : F → Type 0) (may_leave : F → List ℕ → Type 0) (moment : F → ℕ) (left_since : F → ℕ → List ℕ → Type 0)
    (old new : F) : Type 0 where
  pub tells_after : tells old → tells new
  pub told_before : tells new → tells old
  pub moment_stays : tells old → moment new ≡ moment old
  pub leaves : tells old → (c : List ℕ) → may_leave old c → may_leave new c
  pub left : tells old → (c : List ℕ) → may_leave new c → may_leave old c
  pub keeps : tells old → (t : ℕ) (c : List ℕ) → left_since old t c → left_since new t c
  pub kept : tells old → (t : ℕ) (c : List ℕ) → left_since new t c → left_since old t c
