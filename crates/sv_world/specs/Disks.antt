-- All nodes over their disks, call by call: what a list of calls of running nodes makes of them, and that it is a world.
--
-- A call is what sv_node's `Call.antt` says of it, and no disk stands here: what a stop leaves of one is the state before a
-- call or the state after it. So this file says of a whole cluster what can be said of it from outside: which calls came
-- at which node, what was kept after each, what was put out, and what listeners were told.
use Rattle.std.specs.Prelude.{◌≡◌, ◌<◌, ◌==◌, ℕ, Bool, true, false, cond, Some, List, [], ◌∷◌, ◌++◌, map, slice_get, ⊤}
use Rattle.std.specs.List.{flat_map}
use Rattle.sv_journal.specs.declared.journal_fault.JournalFault.TheVariants as journal
use Rattle.sv_model.specs.declared.event.Told.{Told}
use Rattle.sv_model.specs.declared.input.Input.{Input}
use Rattle.sv_model.specs.declared.input.Input.TheVariants as input
use Rattle.sv_model.specs.declared.key.Moment.{Moment}
use Rattle.sv_model.specs.declared.output.Output.{Output}
use Rattle.sv_model.specs.declared.packet.Packet.{Packet}
use Rattle.sv_model.specs.declared.site.StepFault.TheVariants as step
use Rattle.sv_model.specs.Container.{Meanings}
use Rattle.sv_model.specs.Membership.{In}
use Rattle.sv_model.specs.Migration.{addressee}
use Rattle.sv_model.specs.NodeState.{Durable}
use Rattle.sv_model.specs.Outputs.{sends_in}
use Rattle.sv_model.specs.Replay.{blank}
use Rattle.sv_model.specs.Step.{with_mark}
use Rattle.sv_node.specs.declared.fault.OpenFault.TheVariants as opening
use Rattle.sv_node.specs.Call.{Call, Open, Step, Unsaid, Compact, Stop, Done, Refused, Cut, Given, After, Does, runs_behind}
use Rattle.sv_world.specs.declared.event.WorldEvent.{WorldEvent}
use Rattle.sv_world.specs.declared.event.WorldEvent.TheVariants.{Ask, Deliver, Poke, Tick, Move, Crash, Torn, Silent, Restart, TornRestart}
use Rattle.sv_world.specs.declared.line.Line.{Line}
use Rattle.sv_world.specs.World.{Cluster, Member, World, setting_of, set_member, stopped, nothing_happened, run, AlwaysKnows}
use Rattle.sv_world.specs.declared.rules.Rules.{Rules}
use Rattle.sv_world.specs.Headline.{IsHeadline}
use Rattle.sv_world.specs.Journals.{AreWithin, HaveFitted}
use Rattle.sv_world.specs.Rolling.{IsTurn}
use Rattle.sv_world.specs.Starts.{number_of}

-- a call at a node, and what there is after it
pub record NodeCall : Type 0 where
  pub node : ℕ
  pub call : Call
  pub after : After

-- what a whole step shows, and since which start of which node
pub record Shown : Type 0 where
  pub node : ℕ
  pub boot : ℕ
  pub outputs : List Output
  pub told : List Told

-- what has come of all calls so far: what each node keeps and whether it runs, all packets that were put out, and what each
-- step has shown
pub record Seen : Type 0 where
  pub members : ℕ → Member
  pub packets : List Packet
  pub shown : List Shown

-- all disks are blank, and no node was opened
abbrev pub nothing_called : Seen
nothing_called = record { members = λ _. stopped blank; packets = []; shown = [] }

-- ---- what a call may be given

-- a packet was put out before
abbrev pub WasSent : List Packet → Input → Type 0
WasSent packets (input.Ask token r) = ⊤
WasSent packets (input.Packet p) = In p packets
WasSent packets input.Poke = ⊤
WasSent packets input.Tick = ⊤
WasSent packets (input.Move k to) = ⊤

-- a request comes under a number that none of these was
abbrev pub IsNew : List ℕ → Input → Type 0
IsNew numbers (input.Ask number r) = ¬ In number numbers
IsNew numbers (input.Packet p) = ⊤
IsNew numbers input.Poke = ⊤
IsNew numbers input.Tick = ⊤
IsNew numbers (input.Move k to) = ⊤

abbrev pub with_number : Input → List ℕ → List ℕ
with_number (input.Ask number r) numbers = number ∷ numbers
with_number (input.Packet p) numbers = numbers
with_number input.Poke numbers = numbers
with_number input.Tick numbers = numbers
with_number (input.Move k to) numbers = numbers

-- the same of several steps, one after the other
abbrev pub AllMayCome : List Packet → List ℕ → List Given → Type 0
AllMayCome packets numbers [] = ⊤
AllMayCome packets numbers (g ∷ gs) = (WasSent packets g.input × IsNew numbers g.input) × AllMayCome packets (with_number g.input numbers) gs

-- the numbers are those of the requests that came to the node since it was opened
abbrev pub MayCome : List Packet → List ℕ → Call → Type 0
MayCome packets numbers (Open ending) = ⊤
MayCome packets numbers (Step at input ending) = WasSent packets input × IsNew numbers input
MayCome packets numbers (Unsaid givens) = AllMayCome packets numbers givens
MayCome packets numbers (Compact ending) = ⊤
MayCome packets numbers Stop = ⊤

-- the number of the start that a call is of
abbrev pub start_at : Seen → NodeCall → ℕ
start_at s l = number_of (s.members l.node).node.durable l.call

-- the start that the call is of was told of its own node; the call was given what it may be given, and did what such a call does
-- with the application and the setting of that start
pub record IsCall (m : Meanings) (c : Cluster) (s : Seen) (numbers : ℕ → List ℕ) (l : NodeCall) : Type 0 where
  pub inside : l.node < c.nodes l.node (start_at s l)
  pub comes : MayCome s.packets (numbers l.node) l.call
  pub does :
      Does (m l.node (start_at s l)) (setting_of c l.node (start_at s l)) (s.members l.node).up (s.members l.node).node l.call l.after

-- ---- what comes of it

-- an input that isn't a packet for another node
abbrev pub is_own : ℕ → Input → Bool
is_own n (input.Ask token r) = true
is_own n (input.Packet p) = addressee p == n
is_own n input.Poke = true
is_own n input.Tick = true
is_own n (input.Move k to) = true

-- only a whole step shows something; a packet for another node does nothing at all
abbrev pub shown_at : ℕ → Durable → Call → After → List Shown
shown_at n d (Open ending) a = []
shown_at n d (Step at input Done) a = cond (is_own n input) (record { node = n; boot = d.boot; outputs = a.outputs; told = a.told } ∷ []) []
shown_at n d (Step at input (Refused fault)) a = []
shown_at n d (Step at input Cut) a = []
shown_at n d (Unsaid givens) a = []
shown_at n d (Compact ending) a = []
shown_at n d Stop a = []

abbrev pub behind : Seen → NodeCall → Seen
behind s l =
    let p = s.members l.node in
    record {
      members = set_member s.members l.node (record { up = runs_behind p.up l.call; node = l.after.node });
      packets = s.packets ++ sends_in l.after.outputs;
      shown = s.shown ++ shown_at l.node p.node.durable l.call l.after;
    }

abbrev pub behind_all : Seen → List NodeCall → Seen
behind_all s [] = s
behind_all s (l ∷ ls) = behind_all (behind s l) ls

-- an opening that was done begins anew; a request that was refused may come again under its number
abbrev pub numbers_behind : Call → List ℕ → List ℕ
numbers_behind (Open Done) numbers = []
numbers_behind (Open (Refused fault)) numbers = numbers
numbers_behind (Open Cut) numbers = numbers
numbers_behind (Step at input Done) numbers = with_number input numbers
numbers_behind (Step at input (Refused fault)) numbers = numbers
numbers_behind (Step at input Cut) numbers = numbers
numbers_behind (Unsaid givens) numbers = numbers
numbers_behind (Compact ending) numbers = numbers
numbers_behind Stop numbers = numbers

abbrev pub all_numbers : (ℕ → List ℕ) → NodeCall → ℕ → List ℕ
all_numbers numbers l n = cond (n == l.node) (numbers_behind l.call (numbers n)) (numbers n)

-- each of them, where those before it have led
abbrev pub AreCalls : Meanings → Cluster → Seen → (ℕ → List ℕ) → List NodeCall → Type 0
AreCalls m c s numbers [] = ⊤
AreCalls m c s numbers (l ∷ ls) = IsCall m c s numbers l × AreCalls m c (behind s l) (all_numbers numbers l) ls

-- ---- the events of calls

-- the event of a whole step: that of its own request and number, or of one of the packets that were sent; none for a packet
-- for another node
abbrev pub AreOfInput : List Packet → ℕ → Moment → Input → List WorldEvent → Type 0
AreOfInput packets n at (input.Ask number r) events = events ≡ Ask n at number r ∷ []
AreOfInput packets n at (input.Packet p) events =
    cond (addressee p == n) ((place : ℕ) × (slice_get packets place ≡ Some p) × (events ≡ Deliver at place ∷ [])) (events ≡ [])
AreOfInput packets n at input.Poke events = events ≡ Poke n at ∷ []
AreOfInput packets n at input.Tick events = events ≡ Tick n at ∷ []
AreOfInput packets n at (input.Move k to) events = events ≡ Move n at k to ∷ []

-- a torn start, its record kept or not
abbrev pub AreOfCutStart : ℕ → List WorldEvent → Type 0
AreOfCutStart n events = (kept : Bool) × (events ≡ TornRestart n kept ∷ [])

-- a torn step, its record kept or not
abbrev pub AreOfCutStep : ℕ → Moment → Input → List WorldEvent → Type 0
AreOfCutStep n at input events = (kept : Bool) × (events ≡ Torn n at input kept ∷ [])

-- a silent step
abbrev pub silent_event : ℕ → Given → WorldEvent
silent_event n g = Silent n g.at g.input

-- the node stops, if it runs
abbrev pub AreOfStop : (up : Bool) → ℕ → List WorldEvent → Type 0
AreOfStop up n events = events ≡ cond up (Crash n ∷ []) []

-- the events of a call at a node that runs (`up`), or doesn't: one, or none where nothing has changed; of steps that were made
-- durable at once and of which nothing has left one for each, and the stop
abbrev pub AreOfCall : List Packet → (up : Bool) → ℕ → Call → List WorldEvent → Type 0
AreOfCall packets up n (Open Done) events = events ≡ Restart n ∷ []
AreOfCall packets up n (Open (Refused opening.Damaged)) events = events ≡ Restart n ∷ []
AreOfCall packets up n (Open (Refused opening.Full)) events = events ≡ TornRestart n false ∷ []
AreOfCall packets up n (Open (Refused opening.Memory)) events = events ≡ TornRestart n false ∷ []
AreOfCall packets up n (Open (Refused opening.Device)) events = AreOfCutStart n events
AreOfCall packets up n (Open Cut) events = AreOfCutStart n events
AreOfCall packets up n (Step at input Done) events = AreOfInput packets n at input events
AreOfCall packets up n (Step at input (Refused step.Failed)) events = events ≡ []
AreOfCall packets up n (Step at input (Refused step.Full)) events = events ≡ []
AreOfCall packets up n (Step at input (Refused step.Memory)) events = events ≡ []
AreOfCall packets up n (Step at input (Refused step.Device)) events = AreOfCutStep n at input events
AreOfCall packets up n (Step at input Cut) events = AreOfCutStep n at input events
AreOfCall packets up n (Unsaid givens) events = events ≡ map (silent_event n) givens ++ Crash n ∷ []
AreOfCall packets up n (Compact Done) events = events ≡ []
AreOfCall packets up n (Compact (Refused journal.Damaged)) events = ⊥
AreOfCall packets up n (Compact (Refused journal.Failed)) events = events ≡ []
AreOfCall packets up n (Compact (Refused journal.Full)) events = events ≡ []
AreOfCall packets up n (Compact (Refused journal.Memory)) events = events ≡ []
AreOfCall packets up n (Compact (Refused journal.Device)) events = AreOfStop up n events
AreOfCall packets up n (Compact Cut) events = AreOfStop up n events
AreOfCall packets up n Stop events = AreOfStop up n events

abbrev pub AreEventsOf : Seen → NodeCall → List WorldEvent → Type 0
AreEventsOf s l events = AreOfCall s.packets (s.members l.node).up l.node l.call events

-- the events of the calls, one call after the other
abbrev pub AreOfAll : Seen → List NodeCall → List WorldEvent → Type 0
AreOfAll s [] events = events ≡ []
AreOfAll s (l ∷ ls) events =
    (own : List WorldEvent) × (rest : List WorldEvent) × (events ≡ own ++ rest) × AreEventsOf s l own × AreOfAll (behind s l) ls rest

-- ---- a world, seen so

abbrev pub shown_by : Line → List Shown
shown_by l = cond l.whole (record { node = l.node; boot = l.boot; outputs = l.outputs; told = with_mark l.events l.mark } ∷ []) []

abbrev pub seen_as : World → Seen
seen_as w = record { members = w.members; packets = w.packets; shown = flat_map shown_by w.trace }

-- ---- nodes that are added while others run

-- an opening comes when it is the node's turn
abbrev pub InTurnAt : Cluster → (ℕ → Member) → ℕ → Call → Type 0
InTurnAt c members n (Open ending) = IsTurn c members n
InTurnAt c members n (Step at input ending) = ⊤
InTurnAt c members n (Unsaid givens) = ⊤
InTurnAt c members n (Compact ending) = ⊤
InTurnAt c members n Stop = ⊤

-- so does each of these
abbrev pub AreOpenedInTurn : Cluster → Seen → List NodeCall → Type 0
AreOpenedInTurn c s [] = ⊤
AreOpenedInTurn c s (l ∷ ls) = InTurnAt c s.members l.node l.call × AreOpenedInTurn c (behind s l) ls

-- The calls are a world: the list of their events leads to just what has come of them. So the theorem holds of the requests
-- that came, of what the nodes keep, of what was put out and of what was told, as long as each node that runs was told of each
-- node whose sessions live; which is so where nodes are opened in turn.
pub record AreWorld (m : Meanings) (c : Cluster) (calls : List NodeCall) : Type 0 where
  pub events : List WorldEvent
  pub own : AreOfAll nothing_called calls events
  pub seen : seen_as (run m c nothing_happened events) ≡ behind_all nothing_called calls
  pub headline : AlwaysKnows m c nothing_happened events → IsHeadline m (run m c nothing_happened events)
  pub knows : AreOpenedInTurn c nothing_called calls → AlwaysKnows m c nothing_happened events
  pub fit : (wide : Rules) → AreWithin wide c → HaveFitted wide (run m c nothing_happened events)
