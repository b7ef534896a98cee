-- The history of a node: its calls in turn, of one process or of several, one after the other.
use Rattle.std.specs.Prelude.{◌≡◌, ◌⊎◌, ◌<◌, ◌≤◌, ℕ, Bool, false, IsTrue, Result, Ok, Err, List, [], ◌∷◌, ⊤}
use Rattle.std.specs.List.{flat_map}
use Rattle.sv_model.specs.declared.event.Told.{Told}
use Rattle.sv_model.specs.declared.input.Input.{Input}
use Rattle.sv_model.specs.declared.input.Input.TheVariants as input
use Rattle.sv_model.specs.declared.node.Setting.{Setting}
use Rattle.sv_model.specs.Engine.{EngineMeaning, heard_all}
use Rattle.sv_model.specs.NodeState.{Durable, Node as State}
use Rattle.sv_node.specs.Call.{Call, Open, Step, Unsaid, Compact, Stop, Done, Refused, Cut, Given, After, kept, Does, runs_behind}
use Rattle.sv_node.specs.Node.{engine_of, setting_of, state_of, journal_of}
use Rattle.sv_node.specs.Stops.{TellsBoth, LeavesEither, Restores}
use Rattle.sv_node.specs.declared.node.Node.{Node}

-- ---- calls in turn

-- a call, and what there is after it
pub record Turn : Type 0 where
  pub call : Call
  pub after : After

-- a node between two calls: whether it runs with its disks at hand, and what it keeps
pub record Stand : Type 0 where
  pub up : Bool
  pub node : State

-- it doesn't run, and this is durable
abbrev pub halted : Durable → Stand
halted d = record { up = false; node = kept d }

abbrev pub behind : Stand → Turn → Stand
behind s t = record { up = runs_behind s.up t.call; node = t.after.node }

abbrev pub behind_all : Stand → List Turn → Stand
behind_all s [] = s
behind_all s (t ∷ ts) = behind_all (behind s t) ts

-- each of them does what such a call does, where those before it have led
abbrev pub AreTurns : EngineMeaning → Setting → Stand → List Turn → Type 0
AreTurns m set s [] = ⊤
AreTurns m set s (t ∷ ts) = Does m set s.up s.node t.call t.after × AreTurns m set (behind s t) ts

abbrev pub told_in : List Turn → List Told
told_in ts = flat_map (λ (t : Turn). t.after.told) ts

-- ---- the numbers of requests

-- a request comes under a number above this
abbrev pub IsAbove : ℕ → Input → Type 0
IsAbove low (input.Ask number r) = low < number
IsAbove low (input.Packet p) = ⊤
IsAbove low input.Poke = ⊤
IsAbove low input.Tick = ⊤
IsAbove low (input.Move k to) = ⊤

-- the greatest number so far
abbrev pub number_in : ℕ → Input → ℕ
number_in low (input.Ask number r) = number
number_in low (input.Packet p) = low
number_in low input.Poke = low
number_in low input.Tick = low
number_in low (input.Move k to) = low

-- the same of several, one after the other
abbrev pub RiseIn : ℕ → List Given → Type 0
RiseIn low [] = ⊤
RiseIn low (g ∷ gs) = IsAbove low g.input × RiseIn (number_in low g.input) gs

abbrev pub numbers_in : ℕ → List Given → ℕ
numbers_in low [] = low
numbers_in low (g ∷ gs) = numbers_in (number_in low g.input) gs

abbrev pub RisesAt : ℕ → Call → Type 0
RisesAt low (Open ending) = ⊤
RisesAt low (Step at input ending) = IsAbove low input
RisesAt low (Unsaid givens) = RiseIn low givens
RisesAt low (Compact ending) = ⊤
RisesAt low Stop = ⊤

-- an opening that was done begins anew
abbrev pub lowest_behind : ℕ → Call → ℕ
lowest_behind low (Open Done) = 0
lowest_behind low (Open (Refused fault)) = low
lowest_behind low (Open Cut) = low
lowest_behind low (Step at input ending) = number_in low input
lowest_behind low (Unsaid givens) = numbers_in low givens
lowest_behind low (Compact ending) = low
lowest_behind low Stop = low

-- requests come under numbers that rise from each opening on, here from above `low` up to `high`
abbrev pub Rise : (low high : ℕ) → List Turn → Type 0
Rise low high [] = low ≤ high
Rise low high (t ∷ ts) = RisesAt low t.call × Rise (lowest_behind low t.call) high ts

-- ---- what they lead to

-- some calls lead from here to there, and this is what listeners were told by them
pub record Leads (m : EngineMeaning) (set : Setting) (low high : ℕ) (from to : Stand) (told : List Told) : Type 0 where
  pub turns : List Turn
  pub are : AreTurns m set from turns
  pub rise : Rise low high turns
  pub to_is : behind_all from turns ≡ to
  pub told_is : told_in turns ≡ told

-- ---- a node in code

abbrev pub stand_of : {E D : Type 0} → Node E D → Stand
stand_of n = record { up = (journal_of n).live; node = state_of n }

-- some calls have made this of a node, which goes on
pub record GoesOn {E D : Type 0} (meaning : E → EngineMeaning) (heard : E → List (List ℕ)) (tells : D → Type 0) (low high : ℕ)
    (old new : Node E D) : Type 0 where
  pub told : List Told
  pub leads : Leads (meaning (engine_of old)) (setting_of old) low high (stand_of old) (stand_of new) told
  pub live : IsTrue (journal_of new).live
  pub setting : setting_of new ≡ setting_of old
  pub meaning_is : meaning (engine_of new) ≡ meaning (engine_of old)
  pub heard_is : heard (engine_of new) ≡ heard_all (meaning (engine_of old)) (heard (engine_of old)) told
  pub tells_on : TellsBoth tells (journal_of old) → TellsBoth tells (journal_of new)

-- under the last of them a disk has failed: whatever a stop now leaves of the disks gives the state before that call or the
-- one after it, and to each of both the calls lead
pub record Fails {E D : Type 0} (meaning : E → EngineMeaning) (heard : E → List (List ℕ)) (tells : D → Type 0) (may_leave : D → List ℕ → Type 0)
    (low high : ℕ) (old new : Node E D) : Type 0 where
  pub told : List Told
  pub before : Durable
  pub after : Durable
  pub leads : (d : Durable) → (d ≡ before) ⊎ (d ≡ after) → Leads (meaning (engine_of old)) (setting_of old) low high (stand_of old) (halted d) told
  pub left : TellsBoth tells (journal_of old) → LeavesEither may_leave (journal_of new) (setting_of old) before after
  pub meaning_is : meaning (engine_of new) ≡ meaning (engine_of old)
  pub heard_is : heard (engine_of new) ≡ heard_all (meaning (engine_of old)) (heard (engine_of old)) told

-- what calls have made of a node that ran, by what came of them: with Ok it goes on
abbrev pub HasGone : {E D T F : Type 0} → (E → EngineMeaning) → (E → List (List ℕ)) → (D → Type 0) → (D → List ℕ → Type 0) → ℕ → ℕ → Node E D → Node E D
    → Result T F → Type 0
HasGone meaning heard tells may_leave low high old new (Ok x) = GoesOn meaning heard tells low high old new
HasGone meaning heard tells may_leave low high old new (Err fault) =
    GoesOn meaning heard tells low high old new ⊎ Fails meaning heard tells may_leave low high old new

-- calls since an opening, up to the last one
abbrev pub HasEnded : {E D : Type 0} → (E → EngineMeaning) → (E → List (List ℕ)) → (D → Type 0) → (D → List ℕ → Type 0) → Node E D → Node E D → Type 0
HasEnded meaning heard tells may_leave old new = (high : ℕ) × (GoesOn meaning heard tells 0 high old new ⊎ Fails meaning heard tells may_leave 0 high old new)

-- ---- the life of a process

-- Over the disks A and B, from its opening to its end: whatever a stop then leaves of them, some calls lead there from what
-- they gave before, whatever numbers requests had then; and these have told listeners just what those have heard.
pub record IsLife {E D : Type 0} (meaning : E → EngineMeaning) (heard : E → List (List ℕ)) (tells : D → Type 0) (seen : D → List ℕ)
    (may_leave : D → List ℕ → Type 0) (set : Setting)
    (engine : E) (a b : D) (engine' : E) (a' b' : D) : Type 0 where
  pub told : List Told
  pub high : ℕ
  pub meaning_is : meaning engine' ≡ meaning engine
  pub heard_is : heard engine' ≡ heard_all (meaning engine) (heard engine) told
  pub leads : tells a → tells b → (d : Durable) → Restores set (seen a) (seen b) d → (x y : List ℕ) → may_leave a' x → may_leave b' y
      → (e : Durable) × Restores set x y e × ((low : ℕ) → Leads (meaning engine) set low high (halted d) (halted e) told)
