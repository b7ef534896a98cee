-- What a node is told by itself, and what holds after it of those who wait.
use Rattle.std.specs.Prelude.{◌≡◌, ◌<◌, ◌+◌, ◌≤◌, ◌++◌, ◌∷◌, [], ℕ, max, List, Vec, Result, Ok, false, length, map, vec_items}
use Rattle.std.specs.declared.alloc.Global.{Global}
use Rattle.std.specs.List.{AllByRecursion}
use Rattle.sv_host.specs.Group.{inputs_of}
use Rattle.sv_host.specs.Outcome.{last_taken}
use Rattle.sv_host.specs.declared.group.Group.{Group}
use Rattle.sv_host.specs.declared.nudges.Nudge.{Nudge}
use Rattle.sv_host.specs.declared.nudges.Nudge.TheVariants.{Poke, Tick, LateTick}
use Rattle.sv_host.specs.declared.outcome.Taken.{Taken}
use Rattle.sv_host.specs.declared.outcome.Taken.TheVariants.{Quiet}
use Rattle.sv_model.specs.declared.input.Input.{Input}
use Rattle.sv_model.specs.declared.input.Input.TheVariants as input
use Rattle.sv_model.specs.declared.key.Moment.{Moment}
use Rattle.sv_model.specs.declared.node.Parked.{Parked}
use Rattle.sv_model.specs.declared.node.Setting.{Setting}
use Rattle.sv_model.specs.declared.output.Output.{Output}
use Rattle.sv_model.specs.declared.site.StepFault.{StepFault}
use Rattle.sv_model.specs.Engine.{EngineMeaning}
use Rattle.sv_model.specs.Membership.{In}
use Rattle.sv_model.specs.NodeState.{Node as State, is_settled, known}
use Rattle.sv_model.specs.Site.{with_list}
use Rattle.sv_node.specs.Group.{GroupEnds}
use Rattle.sv_node.specs.declared.node.Node.{Node}

-- nobody waits for a session that is at hand
abbrev pub IsSettled : State → Type 0
IsSettled n = (p : Parked) → In p n.parked → is_settled (known n.durable p.key) ≡ false

-- nobody has waited for as long as requests may, by the clock that nobody sets
abbrev pub IsInTime : Setting → ℕ → State → Type 0
IsInTime set steady n = (p : Parked) → In p n.parked → steady < p.since + set.deadline

abbrev pub input_of : Nudge → Input
input_of Poke = input.Poke
input_of Tick = input.Tick
input_of (LateTick second) = input.Tick

-- when the node is told: a late tick in no second since 1970
abbrev pub moment_of : Nudge → Moment → Moment
moment_of Poke at = at
moment_of Tick at = at
moment_of (LateTick second) at = record { now = 0; steady = max at.steady second; secret = at.secret }

-- the second up to which time has passed then, if that is the second before
abbrev pub second_of : Nudge → ℕ → ℕ
second_of Poke before = before
second_of Tick before = before
second_of (LateTick second) before = max before second

-- one of what a node is told by itself, in this second or a later one
pub record IsNudge (nudge : Nudge) (second : ℕ) (i : Moment × Input) : Type 0 where
  pub at : Moment
  pub is : i ≡ (moment_of nudge at, input_of nudge)
  pub since : second ≤ at.steady

-- it stands after the others of a group
pub record HasNudge (nudge : Nudge) (second : ℕ) (group next : Group) : Type 0 where
  pub one : Moment × Input
  pub is : IsNudge nudge second one
  pub inputs : inputs_of next ≡ inputs_of group ++ one ∷ []

-- and so do so many
pub record HasNudges (nudge : Nudge) (second count : ℕ) (group next : Group) : Type 0 where
  pub more : List (Moment × Input)
  pub long : length more ≡ count
  pub are : AllByRecursion (IsNudge nudge second) more
  pub inputs : inputs_of next ≡ inputs_of group ++ more

-- a node was told so many, after what was gathered, and this came of the last
pub record IsTold {E D : Type 0} (meaning : E → EngineMeaning) (heard : E → List (List ℕ)) (failed : D → ℕ) (nudge : Nudge) (second count : ℕ)
    (old : Node E D) (group : Group) (new : Node E D) (taken : Taken) : Type 0 where
  pub more : List (Moment × Input)
  pub long : length more ≡ count
  pub are : AllByRecursion (IsNudge nudge second) more
  pub answers : List (Result (Vec Output Global) StepFault)
  pub ends : GroupEnds meaning heard failed old (inputs_of group ++ more) (Ok (map (with_list vec_items) answers)) new
  pub taken_is : taken ≡ last_taken Quiet answers
