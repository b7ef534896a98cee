-- A call of a running node, seen from outside: what the node keeps after it, what it puts out, and what its listeners are
-- told. No disk stands here: what a stop leaves of one is the state on one side of a call or on the other.
use Rattle.std.specs.Prelude.{◌≡◌, ◌≢◌, ◌⊎◌, Bool, true, false, cond, Result, Ok, Err, List, [], ◌∷◌}
use Rattle.sv_journal.specs.declared.journal_fault.JournalFault.{JournalFault}
use Rattle.sv_journal.specs.declared.journal_fault.JournalFault.TheVariants as journal
use Rattle.sv_model.specs.declared.event.Told.{Told}
use Rattle.sv_model.specs.declared.input.Input.{Input}
use Rattle.sv_model.specs.declared.key.Moment.{Moment}
use Rattle.sv_model.specs.declared.node.Setting.{Setting}
use Rattle.sv_model.specs.declared.output.Output.{Output}
use Rattle.sv_model.specs.declared.site.StepFault.{StepFault}
use Rattle.sv_model.specs.declared.site.StepFault.TheVariants as step
use Rattle.sv_model.specs.Decision.{Decision, left}
use Rattle.sv_model.specs.Engine.{EngineMeaning}
use Rattle.sv_model.specs.Node.{decided}
use Rattle.sv_model.specs.NodeState.{Durable, Node, last_number}
use Rattle.sv_model.specs.Step.{told}
use Rattle.sv_node.specs.Opened.{restarted}
use Rattle.sv_node.specs.declared.fault.OpenFault.{OpenFault}
use Rattle.sv_node.specs.declared.fault.OpenFault.TheVariants as opening

-- ---- calls, and how they end

-- a call was done, or it answered a fault, or a stop fell inside it
pub data Ending (Fault : Type 0) : Type 0 where
  Done : Ending Fault
  Refused : Fault → Ending Fault
  Cut : Ending Fault

-- what a step is given, and when
pub record Given : Type 0 where
  pub at : Moment
  pub input : Input

pub data Call : Type 0 where
  Open : Ending OpenFault → Call
  Step : Moment → Input → Ending StepFault → Call
  -- steps that become durable at once: a stop falls, or a disk fails, after their records, and before anything of them has left
  Unsaid : List Given → Call
  Compact : Ending JournalFault → Call
  -- the node is stopped, or its process ends between two calls
  Stop : Call

abbrev pub ending_of : {T F : Type 0} → Result T F → Ending F
ending_of (Ok x) = Done
ending_of (Err fault) = Refused fault

-- ---- what there is after a call

pub record After : Type 0 where
  pub node : Node
  pub outputs : List Output
  pub told : List Told

-- the node keeps this, and has put out and told nothing
abbrev pub quiet : Node → After
quiet n = record { node = n; outputs = []; told = [] }

-- all that is left of a node after a stop, and all that one keeps that has just started
abbrev pub kept : Durable → Node
kept d = record { durable = d; parked = []; next_want = 1 }

abbrev pub carried_out : Decision → After
carried_out d = record { node = left d; outputs = d.outputs; told = told d }

-- a node after all of these steps, one after the other
abbrev pub node_behind : EngineMeaning → Setting → Node → List Given → Node
node_behind m set n [] = n
node_behind m set n (g ∷ gs) = node_behind m set (left (decided m set n g.at g.input)) gs

-- ---- what a call does

-- a stop falls inside a start, before its record or after it; the last number is never gone past
abbrev pub StopsStart : Setting → Durable → After → Type 0
StopsStart set d a = (a ≡ quiet (kept d)) ⊎ ((d.boot ≢ last_number) × (a ≡ quiet (kept (restarted set d))))

-- a stop falls inside a step, before its record or after it
abbrev pub StopsStep : Durable → Decision → After → Type 0
StopsStep old d a = (a ≡ quiet (kept old)) ⊎ (a ≡ quiet (kept d.durable))

-- What a call does, at a node that runs with its disks at hand (`up`), or doesn't. A failed disk is a stop: what the call was
-- to write stands there or doesn't, as the next opening finds, and until then no call does anything.
abbrev pub Does : EngineMeaning → Setting → (up : Bool) → Node → Call → After → Type 0
-- an opening makes one more start; Damaged says of disks that a node has left that its starts are spent
Does m set up n (Open Done) a = (up ≡ false) × (n.durable.boot ≢ last_number) × (a ≡ quiet (kept (restarted set n.durable)))
Does m set up n (Open (Refused opening.Damaged)) a = (up ≡ false) × (n.durable.boot ≡ last_number) × (a ≡ quiet n)
Does m set up n (Open (Refused opening.Full)) a = (up ≡ false) × (a ≡ quiet n)
Does m set up n (Open (Refused opening.Memory)) a = (up ≡ false) × (a ≡ quiet n)
Does m set up n (Open (Refused opening.Device)) a = (up ≡ false) × StopsStart set n.durable a
Does m set up n (Open Cut) a = (up ≡ false) × StopsStart set n.durable a
-- a step does what the table decides, or nothing
Does m set up n (Step at input Done) a = (up ≡ true) × (a ≡ carried_out (decided m set n at input))
Does m set up n (Step at input (Refused step.Failed)) a = (up ≡ false) × (a ≡ quiet n)
Does m set up n (Step at input (Refused step.Full)) a = a ≡ quiet n
Does m set up n (Step at input (Refused step.Memory)) a = a ≡ quiet n
Does m set up n (Step at input (Refused step.Device)) a = (up ≡ true) × StopsStep n.durable (decided m set n at input) a
Does m set up n (Step at input Cut) a = (up ≡ true) × StopsStep n.durable (decided m set n at input) a
-- of steps that become durable at once all are kept; where none is, the call is a stop
Does m set up n (Unsaid givens) a = (up ≡ true) × (a ≡ quiet (kept (node_behind m set n givens).durable))
-- a compaction changes nothing that a node keeps, and never answers Damaged
Does m set up n (Compact Done) a = a ≡ quiet n
Does m set up n (Compact (Refused journal.Damaged)) a = ⊥
Does m set up n (Compact (Refused journal.Failed)) a = a ≡ quiet n
Does m set up n (Compact (Refused journal.Full)) a = a ≡ quiet n
Does m set up n (Compact (Refused journal.Memory)) a = a ≡ quiet n
Does m set up n (Compact (Refused journal.Device)) a = a ≡ quiet (kept n.durable)
Does m set up n (Compact Cut) a = a ≡ quiet (kept n.durable)
Does m set up n Stop a = a ≡ quiet (kept n.durable)

-- ---- whether the node runs after it, with its disks at hand

-- a step that answers this has met a failed disk
abbrev pub step_ends : StepFault → Bool
step_ends step.Failed = false
step_ends step.Full = false
step_ends step.Memory = false
step_ends step.Device = true

-- a compaction that answers this has met a failed disk
abbrev pub compaction_ends : JournalFault → Bool
compaction_ends journal.Failed = false
compaction_ends journal.Damaged = false
compaction_ends journal.Full = false
compaction_ends journal.Memory = false
compaction_ends journal.Device = true

-- as it was before the call, unless a disk has failed or a stop has cut it
abbrev pub goes_on : {F : Type 0} → (F → Bool) → (up : Bool) → Ending F → Bool
goes_on ends up Done = up
goes_on ends up (Refused fault) = cond (ends fault) false up
goes_on ends up Cut = false

abbrev pub runs_behind : (up : Bool) → Call → Bool
runs_behind up (Open Done) = true
runs_behind up (Open (Refused fault)) = false
runs_behind up (Open Cut) = false
runs_behind up (Step at input ending) = goes_on step_ends up ending
runs_behind up (Unsaid givens) = false
runs_behind up (Compact ending) = goes_on compaction_ends up ending
runs_behind up Stop = false
