-- What has happened in a world in code: what its calls promise.
use Rattle.std.specs.Prelude.{◌≡◌, ℕ, ◌==◌, ◌<◌, zero, suc, Bool, true, false, cond, Option, Some, None, List, [], ◌∷◌, ◌++◌, map, take, length, slice_get}
use Rattle.std.specs.List.{All, flat_map}
use Rattle.std.specs.Option.{option_map}
use Rattle.sv_model.specs.declared.event.Told.{Told}
use Rattle.sv_model.specs.Container.{Meanings, always}
use Rattle.sv_model.specs.Engine.{EngineMeaning, heard_all}
use Rattle.sv_model.specs.Outputs.{sends_in}
use Rattle.sv_model.specs.Step.{with_mark}
use Rattle.sv_world.specs.declared.rules.Rules.{Rules}
use Rattle.sv_world.specs.Rules.{setting_by}
use Rattle.sv_world.specs.declared.event.WorldEvent.{WorldEvent}
use Rattle.sv_world.specs.declared.event.WorldEvent.TheVariants.{Ask, Deliver, Poke, Tick, Move, Crash, Torn, Silent, Restart, TornRestart}
use Rattle.sv_world.specs.declared.fault.WorldFault.{WorldFault}
use Rattle.sv_world.specs.declared.fault.WorldFault.TheVariants.{Memory}
use Rattle.sv_world.specs.declared.line.Effect.{Effect}
use Rattle.sv_world.specs.declared.line.Line.{Line}
use Rattle.sv_world.specs.declared.action.Action.{Action}
use Rattle.sv_world.specs.declared.running.RunFault.{RunFault}
use Rattle.sv_world.specs.declared.slot.Slot.{Slot}
use Rattle.sv_world.specs.declared.world.World.{World as Nodes}
use Rattle.sv_world.specs.Deed.{deed, told_by}
use Rattle.sv_world.specs.Faults.{fault_of}
use Rattle.sv_world.specs.Action.{action_of}
use Rattle.sv_world.specs.World.{World, setting_of, set_member, nothing_happened, run}
use Rattle.sv_world.specs.Worlds.{members_by, settings_by, heard_by, world_of, size_of, cluster_of, meanings_of, heard_of, AllMean}

-- ---- a task

-- a node has done a task, whose engine means `m`; all others are as they were
pub record HaveDone {E : Type 0} (noted : E → List (List ℕ)) (m : EngineMeaning) (old new : List (Slot E)) (o : Action) (f : Effect) : Type 0 where
  pub members : members_by new ≡ set_member (members_by old) o.node (deed m (settings_by old o.node) (members_by old o.node) o.task).member
  pub effect : f ≡ (deed m (settings_by old o.node) (members_by old o.node) o.task).effect
  pub heard : (x : ℕ) → heard_by noted new x ≡ cond (x == o.node) (option_map (λ h. heard_all m h (told_by f)) (heard_by noted old x)) (heard_by noted old x)

-- no node has done anything
pub record AreUndone {E : Type 0} (noted : E → List (List ℕ)) (old new : List (Slot E)) : Type 0 where
  pub members : members_by new ≡ members_by old
  pub heard : heard_by noted new ≡ heard_by noted old

-- ---- events

-- the events of a trace
abbrev pub events_in : World → List WorldEvent
events_in w = map (λ l. l.event) w.trace

-- what a line has told at a node
abbrev pub told_in : ℕ → Line → List Told
told_in n l = cond (l.node == n) (with_mark l.events l.mark) []

abbrev pub told_at : ℕ → List Line → List Told
told_at n lines = flat_map (told_in n) lines

-- each start of a node means this
abbrev pub by_node : (ℕ → EngineMeaning) → Meanings
by_node m = λ n boot. m n

-- these events have happened, each with a line of its own; the world is what they make of it, each node has what it had, and
-- its listeners have noted what it has told
pub record HaveHappened {E : Type 0} (meaning : E → EngineMeaning) (noted : E → List (List ℕ)) (old new : Nodes E) (events : List WorldEvent) : Type 0 where
  pub size : size_of new ≡ size_of old
  pub cluster : cluster_of new ≡ cluster_of old
  pub world : (m : ℕ → EngineMeaning) → AllMean meaning m old → world_of new ≡ run (by_node m) (cluster_of old) (world_of old) events
  pub lines : List Line
  pub trace : (world_of new).trace ≡ (world_of old).trace ++ lines
  pub each : map (λ l. l.event) lines ≡ events
  pub meanings : meanings_of meaning new ≡ meanings_of meaning old
  pub heard : (n : ℕ) (m : EngineMeaning) → meanings_of meaning old n ≡ Some m
      → heard_of noted new n ≡ option_map (λ h. heard_all m h (told_at n lines)) (heard_of noted old n)

-- a node has done what an event asks of it, and the trace has yet to get its line
pub record HasActed {E : Type 0} (meaning : E → EngineMeaning) (noted : E → List (List ℕ)) (old new : Nodes E) (e : WorldEvent) (f : Effect) : Type 0 where
  pub possible : fault_of (cluster_of old) (world_of old) e ≡ None
  pub action : Action
  pub asked : action_of (world_of old).packets e ≡ Some action
  pub number : size_of new ≡ size_of old
  pub settings : settings_by new.slots.items ≡ settings_by old.slots.items
  pub meanings : meanings_of meaning new ≡ meanings_of meaning old
  pub done : (m : EngineMeaning) → meanings_of meaning old action.node ≡ Some m → HaveDone noted m old.slots.items new.slots.items action f
  pub packets : (world_of new).packets ≡ (world_of old).packets ++ sends_in f.outputs
  pub trace : (world_of new).trace ≡ (world_of old).trace

-- nothing has happened
pub record IsStill {E : Type 0} (meaning : E → EngineMeaning) (noted : E → List (List ℕ)) (old new : Nodes E) : Type 0 where
  pub size : size_of new ≡ size_of old
  pub cluster : cluster_of new ≡ cluster_of old
  pub world : world_of new ≡ world_of old
  pub meanings : meanings_of meaning new ≡ meanings_of meaning old
  pub heard : heard_of noted new ≡ heard_of noted old

-- the fault with which an event is refused: its own, and where it has none, want of memory
abbrev pub refusal : Option WorldFault → WorldFault
refusal None = Memory
refusal (Some fault) = fault

-- an event was refused
pub record IsRefused {E : Type 0} (meaning : E → EngineMeaning) (noted : E → List (List ℕ)) (old new : Nodes E) (e : WorldEvent)
    (cause : WorldFault) : Type 0 where
  pub still : IsStill meaning noted old new
  pub fault : cause ≡ refusal (fault_of (cluster_of old) (world_of old) e)

-- the events before a place have happened, and the one there was refused
pub record HaveStopped {E : Type 0} (meaning : E → EngineMeaning) (noted : E → List (List ℕ)) (old new : Nodes E) (events : List WorldEvent)
    (f : RunFault) : Type 0 where
  pub within : f.place < length events
  pub before : HaveHappened meaning noted old new (take f.place events)
  pub fault : (e : WorldEvent) → slice_get events f.place ≡ Some e → f.fault ≡ refusal (fault_of (cluster_of old) (world_of new) e)

-- ---- worlds that were made

-- a start of each node, by number
abbrev pub restarts : ℕ → List WorldEvent
restarts zero = []
restarts (suc n) = restarts n ++ Restart n ∷ []

-- all engines mean this
abbrev pub AllAlike : {E : Type 0} → (E → EngineMeaning) → EngineMeaning → List E → Type 0
AllAlike meaning m engines = All (λ e. meaning e ≡ m) engines

-- nodes to which these events have happened and nothing else, each over the engine of its number, and told of all
pub record AreMade {E : Type 0} (meaning : E → EngineMeaning) (noted : E → List (List ℕ)) (engines : List E) (rules : Rules) (events : List WorldEvent) (w : Nodes E) : Type 0 where
  pub size : size_of w ≡ length engines
  pub settings : (n boot : ℕ) → n < length engines → setting_of (cluster_of w) n boot ≡ setting_by rules n (length engines)
  pub world : (m : EngineMeaning) → AllAlike meaning m engines → world_of w ≡ run (always m) (cluster_of w) nothing_happened events
  pub each : events_in (world_of w) ≡ events
  pub meanings : (n : ℕ) → meanings_of meaning w n ≡ option_map meaning (slice_get engines n)
  pub heard : (n : ℕ) → heard_of noted w n ≡ option_map noted (slice_get engines n)

-- these engines are those: as many, in order, and no call has reached them
pub record AreBack {E : Type 0} (meaning : E → EngineMeaning) (noted : E → List (List ℕ)) (fit : E → Type 0) (old new : List E) : Type 0 where
  pub valid : All fit new
  pub number : length new ≡ length old
  pub meanings : (n : ℕ) → option_map meaning (slice_get new n) ≡ option_map meaning (slice_get old n)
  pub heard : (n : ℕ) → option_map noted (slice_get new n) ≡ option_map noted (slice_get old n)

-- a start that isn't torn
abbrev pub is_start : WorldEvent → Bool
is_start (Ask n moment token r) = false
is_start (Deliver moment place) = false
is_start (Poke n moment) = false
is_start (Tick n moment) = false
is_start (Move n moment k to) = false
is_start (Crash n) = false
is_start (Torn n moment given kept) = false
is_start (Silent n moment given) = false
is_start (Restart n) = true
is_start (TornRestart n kept) = false
