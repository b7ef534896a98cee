-- What a stop leaves of the disks of a node, as the state after a call that it has cut, or that was refused.
use Rattle.std.specs.Prelude.{◌≡◌, ◌≢◌, ◌⊎◌, Bool, List, ℕ}
use Rattle.sv_model.specs.declared.node.Setting.{Setting}
use Rattle.sv_model.specs.Engine.{EngineMeaning}
use Rattle.sv_model.specs.NodeState.{Durable, Node, last_number}
use Rattle.sv_node.specs.Call.{Call, Does, quiet, kept}
use Rattle.sv_node.specs.Opened.{LeavesStart, LeavesUnstarted}
use Rattle.sv_node.specs.Stops.{RestoresOn, Restores}
use Rattle.sv_node.specs.declared.fault.OpenFault.{OpenFault}
use Rattle.sv_node.specs.declared.fault.OpenFault.TheVariants.{Device, Damaged}

-- the images of the disks A and B give a state that such a call leaves
pub record GivesCall (m : EngineMeaning) (set : Setting) (up : Bool) (n : Node) (call : Call) (a b : List ℕ) : Type 0 where
  pub durable : Durable
  pub gives : Restores set a b durable
  pub does : Does m set up n call (quiet (kept durable))

-- the image of the current disk, beside that of the other one, gives a state that such a call leaves
pub record GivesCallOn (m : EngineMeaning) (set : Setting) (up : Bool) (n : Node) (call : Call) (current other : List ℕ) : Type 0 where
  pub durable : Durable
  pub gives : RestoresOn set current other durable
  pub does : Does m set up n call (quiet (kept durable))

-- whatever a stop now leaves of the disks A and B gives this
abbrev pub LeaveThis : {D : Type 0} → (D → List ℕ → Type 0) → Setting → Durable → D → D → Type 0
LeaveThis may_leave set d a b = (x y : List ℕ) → may_leave a x → may_leave b y → Restores set x y d

-- whatever a stop now leaves of the disks A and B gives the one or the other
abbrev pub LeaveEither : {D : Type 0} → (D → List ℕ → Type 0) → Setting → Durable → Durable → D → D → Type 0
LeaveEither may_leave set d e a b = (x y : List ℕ) → may_leave a x → may_leave b y → Restores set x y d ⊎ Restores set x y e

-- What one stop leaves of the disks A and B, inside an opening that hands them on as these. It writes one disk alone, and that
-- only once it has synced the other: so of one of them the stop leaves what a stop before could leave, or of the other what a
-- stop leaves at the end.
pub record LeftTogether {D : Type 0} (may_leave : D → List ℕ → Type 0) (moment : D → ℕ) (left_since : D → ℕ → List ℕ → Type 0)
    (a b new_a new_b : D) (x y : List ℕ) : Type 0 where
  pub of_a : left_since new_a (moment a) x
  pub of_b : left_since new_b (moment b) y
  pub a_before : may_leave a x ⊎ may_leave new_b y
  pub b_before : may_leave b y ⊎ may_leave new_a x

-- what an opening says of the disks A and B where it answers a fault, of which the images give this
pub record IsRefusedOpening {D : Type 0} (may_leave : D → List ℕ → Type 0) (fault : OpenFault) (set : Setting) (d : Durable)
    (a b new_a new_b : D) : Type 0 where
  pub damaged : fault ≡ Damaged → d.boot ≡ last_number
  pub left : LeavesStart may_leave set a b d new_a new_b
  pub unstarted : fault ≢ Device → LeavesUnstarted may_leave set a b d new_a new_b
