-- What may be relied on while nodes run and packets get through: nobody is forgotten, and nobody waits for longer than the deadline; a
-- session that was sent off arrives; and a request that waits is served, unless its session goes to others again and again.
--
-- No statement speaks of all time. Each says of a list of events what holds after it. In a round each node has a tick, and then all
-- packets come that were sent since the ticks of the round before, each at least once; and at its end nobody waits for a session that is
-- at hand. What else may happen in it is anything but a stop and a start: old packets, new requests, moves, in any order.
--
-- While nodes run, each keeps the application, the rules and the number of nodes of its start. Nodes that were told of different
-- numbers of nodes don't ask each other, nor take what they send each other; so rounds are of nodes that were told of as many.
use Rattle.std.specs.Prelude.{◌≡◌, ◌≢◌, ◌⊎◌, ℕ, ◌+◌, ◌<◌, ◌≤◌, ◌==◌, ◌&&◌, Bool, cond, true, false, Some, None, List, [], ◌∷◌, ◌++◌, length, slice_get, ⊤}
use Rattle.sv_model.specs.declared.key.Key.{Key}
use Rattle.sv_model.specs.declared.key.Moment.{Moment}
use Rattle.sv_model.specs.declared.key.Token.{Token}
use Rattle.sv_model.specs.declared.session.Session.{Session}
use Rattle.sv_model.specs.declared.node.Setting.{Setting}
use Rattle.sv_model.specs.declared.node.Parked.{Parked}
use Rattle.sv_model.specs.declared.state.KeyState.TheVariants.{Active, Sent, Ended}
use Rattle.sv_model.specs.declared.packet.Packet.TheVariants.{Want, No}
use Rattle.sv_model.specs.declared.record.Record.TheVariants.{Sent as SentRecord}
use Rattle.sv_model.specs.Container.{Meanings}
use Rattle.sv_model.specs.Membership.{In}
use Rattle.sv_model.specs.NodeState.{last_number, epoch_in, known, is_settled, lacks_room}
use Rattle.sv_model.specs.Session.{is_expired}
use Rattle.sv_model.specs.Time.{is_late, is_quiet}
use Rattle.sv_model.specs.Trace.{asked_of, refused_of, served_of, same_token, times}
use Rattle.sv_world.specs.declared.event.WorldEvent.{WorldEvent}
use Rattle.sv_world.specs.declared.event.WorldEvent.TheVariants.{Ask, Deliver, Poke, Tick, Move, Crash, Torn, Silent, Restart, TornRestart}
use Rattle.sv_world.specs.declared.line.Line.{Line}
use Rattle.sv_world.specs.Waits.{tok, boot_of}
use Rattle.sv_world.specs.Headline.{states}
use Rattle.sv_world.specs.World.{Cluster, setting_of, World, durable_at, items, commits_in, happens, run}

-- ---- nodes that run

-- a whole step of a node, where it can be taken
abbrev pub IsStep : WorldEvent → Type 0
IsStep (Ask n moment token r) = ⊤
IsStep (Deliver moment place) = ⊤
IsStep (Poke n moment) = ⊤
IsStep (Tick n moment) = ⊤
IsStep (Move n moment k to) = ⊤
IsStep (Crash n) = ⊥
IsStep (Torn n moment given kept) = ⊥
IsStep (Silent n moment given) = ⊥
IsStep (Restart n) = ⊥
IsStep (TornRestart n kept) = ⊥

abbrev pub AreSteps : List WorldEvent → Type 0
AreSteps [] = ⊤
AreSteps (e ∷ es) = IsStep e × AreSteps es

-- of how many nodes a node was told when it was started last
abbrev pub nodes_told : Cluster → World → ℕ → ℕ
nodes_told c w n = c.nodes n (durable_at w n).boot

-- the setting with which a node was started last
abbrev pub setting_at : Cluster → World → ℕ → Setting
setting_at c w n = setting_of c n (durable_at w n).boot

-- the node runs, and was told of itself
pub record Runs (c : Cluster) (w : World) (n : ℕ) : Type 0 where
  pub up : (w.members n).up ≡ true
  pub there : n < nodes_told c w n

-- so many nodes run, each was told of as many, and no other node runs
pub record AllRun (c : Cluster) (nodes : ℕ) (w : World) : Type 0 where
  pub up : (n : ℕ) → n < nodes → (w.members n).up ≡ true
  pub told : (n : ℕ) → n < nodes → nodes_told c w n ≡ nodes
  pub only : (n : ℕ) → (w.members n).up ≡ true → n < nodes

-- ---- 1. nobody is forgotten

-- how often a token waits
abbrev pub waiting : Token → ℕ → ℕ → List Parked → ℕ
waiting t n boot [] = 0
waiting t n boot (p ∷ ps) = cond (same_token t (tok n boot p.token)) 1 0 + waiting t n boot ps

abbrev pub waiting_in : World → Token → ℕ
waiting_in w t = waiting t t.node (boot_of (w.members t.node)) (w.members t.node).node.parked

-- how often it was served or refused, or waits
abbrev pub accounted_in : World → Token → ℕ
accounted_in w t = times t (served_of (commits_in w)) + times t (refused_of (items w.trace)) + waiting_in w t

-- from one world to another, each request that came was served or refused, or it waits
abbrev pub IsKept : World → World → Type 0
IsKept w v = (t : Token) → times t (asked_of (items v.trace)) + accounted_in w t ≡ times t (asked_of (items w.trace)) + accounted_in v t

abbrev pub NobodyIsForgotten : Meanings → Cluster → World → Type 0
NobodyIsForgotten m c w = (events : List WorldEvent) → AreSteps events → IsKept w (run m c w events)

-- ---- 2. nobody waits for longer than the deadline

-- none waits at the node for as long as its deadline, by the clock that nobody sets
abbrev pub IsInTime : Cluster → World → ℕ → ℕ → Type 0
IsInTime c w n steady = (p : Parked) → In p (w.members n).node.parked → steady < p.since + (setting_at c w n).deadline

abbrev pub TicksEndWaiting : Meanings → Cluster → World → Type 0
TicksEndWaiting m c w = (n : ℕ) (moment : Moment) → Runs c w n → IsInTime c (happens m c w (Tick n moment)) n moment.steady

-- ---- rounds

pub record Round : Type 0 where
  pub ticks : List WorldEvent
  pub rest : List WorldEvent

abbrev pub ticked : Meanings → Cluster → World → Round → World
ticked m c w r = run m c w r.ticks

abbrev pub behind : Meanings → Cluster → World → Round → World
behind m c w r = run m c (ticked m c w r) r.rest

-- each node has a tick
abbrev pub AllTick : ℕ → List WorldEvent → Type 0
AllTick nodes events = (n : ℕ) → n < nodes → (moment : Moment) × In (Tick n moment) events

-- the packets at these places come, each at least once
abbrev pub AllCome : ℕ → ℕ → List WorldEvent → Type 0
AllCome from to events = (place : ℕ) → from ≤ place → place < to → (moment : Moment) × In (Deliver moment place) events

-- nobody waits for a session that is at hand
abbrev pub IsSettled : ℕ → World → Type 0
IsSettled nodes w = (n : ℕ) → n < nodes → (p : Parked) → In p (w.members n).node.parked → is_settled (known (durable_at w n) p.key) ≡ false

-- a fair round of so many nodes, where the packets from place `since` on have not yet come
pub record IsRound (m : Meanings) (c : Cluster) (nodes since : ℕ) (w : World) (r : Round) : Type 0 where
  pub steps : AreSteps r.ticks × AreSteps r.rest
  pub tick : AllTick nodes r.ticks
  pub come : AllCome since (length (ticked m c w r).packets) r.rest
  pub settled : IsSettled nodes (behind m c w r)

-- so many fair rounds, one after the other
abbrev pub AreRounds : Meanings → Cluster → ℕ → ℕ → World → List Round → Type 0
AreRounds m c nodes since w [] = ⊤
AreRounds m c nodes since w (r ∷ rs) = IsRound m c nodes since w r × AreRounds m c nodes (length (ticked m c w r).packets) (behind m c w r) rs

abbrev pub behind_all : Meanings → Cluster → World → List Round → World
behind_all m c w [] = w
behind_all m c w (r ∷ rs) = behind_all m c (behind m c w r) rs

-- rounds from here on: all nodes run, and no packet that was sent before has to come
pub record AreFair (m : Meanings) (c : Cluster) (nodes : ℕ) (w : World) (rounds : List Round) : Type 0 where
  pub run : AllRun c nodes w
  pub rounds_are : AreRounds m c nodes (length w.packets) w rounds

-- ---- what the rounds must not do

-- the node has room for the key, or knows it
abbrev pub HasRoomAt : Cluster → ℕ → Key → World → Type 0
HasRoomAt c n k w = lacks_room (setting_at c w n) (durable_at w n) k ≡ false

-- in each world of these events
abbrev pub HasRoom : Meanings → Cluster → ℕ → Key → World → List WorldEvent → Type 0
HasRoom m c n k w [] = HasRoomAt c n k w
HasRoom m c n k w (e ∷ es) = HasRoomAt c n k w × HasRoom m c n k (happens m c w e) es

abbrev pub HasRoomIn : Meanings → Cluster → ℕ → Key → World → List Round → Type 0
HasRoomIn m c n k w [] = ⊤
HasRoomIn m c n k w (r ∷ rs) = HasRoom m c n k w r.ticks × HasRoom m c n k (ticked m c w r) r.rest × HasRoomIn m c n k (behind m c w r) rs

-- ---- what no step takes back

-- a step handed the session over from the node
pub record WasHanded (k : Key) (x : ℕ) (w v : World) : Type 0 where
  pub line : Line
  pub trace : v.trace ≡ w.trace ++ line ∷ []
  pub node : line.node ≡ x
  pub epoch : ℕ
  pub to : ℕ
  pub session : Session
  pub entry : line.entry ≡ Some (SentRecord k epoch to session)

-- no epoch falls that a node knows of a key
abbrev pub EpochsRise : Meanings → Cluster → World → Type 0
EpochsRise m c w = (e : WorldEvent) → IsStep e → (k : Key) (x : ℕ) → epoch_in (states w k x) ≤ epoch_in (states (happens m c w e) k x)

-- a session that is at hand at a node, or has ended there, stays so until it is handed over
abbrev pub StaysAtHand : Meanings → Cluster → World → Type 0
StaysAtHand m c w =
    (e : WorldEvent) → IsStep e → (k : Key) (x : ℕ) → is_settled (states w k x) ≡ true → (is_settled (states (happens m c w e) k x) ≡ true) ⊎ WasHanded k x w (happens m c w e)

-- one of these events hands the session over from the node
abbrev pub Went : Meanings → Cluster → Key → ℕ → World → List WorldEvent → Type 0
Went m c k x w [] = ⊥
Went m c k x w (e ∷ es) = WasHanded k x w (happens m c w e) ⊎ Went m c k x (happens m c w e) es

abbrev pub WentIn : Meanings → Cluster → Key → ℕ → World → Round → Type 0
WentIn m c k x w a = Went m c k x w a.ticks ⊎ Went m c k x (ticked m c w a) a.rest

-- ---- 3. a session that was sent off arrives in a round, and its sender is done with it in two

abbrev pub IsOff : World → Key → ℕ → ℕ → Session → ℕ → Type 0
IsOff w k n e s to = states w k n ≡ Some (Sent e s to)

abbrev pub HasArrived : World → Key → ℕ → ℕ → Type 0
HasArrived w k e to = e ≤ epoch_in (states w k to)

-- it was sent off, and has yet to arrive
abbrev pub IsOnItsWay : World → Key → ℕ → ℕ → Session → ℕ → Type 0
IsOnItsWay w k n e s to = IsOff w k n e s to × (epoch_in (states w k to) < e)

-- from a tick of its node on, once all has come that the tick has put out, in any order and whatever else happens but stops
abbrev pub ArrivesByTick : Meanings → Cluster → World → Type 0
ArrivesByTick m c w =
    (nodes n e : ℕ) (k : Key) (s : Session) (to : ℕ) (moment : Moment) (rest : List WorldEvent) → n < nodes → to < nodes → AllRun c nodes w → IsOff w k n e s to
    → AreSteps rest → AllCome (length w.packets) (length (happens m c w (Tick n moment)).packets) rest → HasRoom m c to k (happens m c w (Tick n moment)) rest
    → HasArrived (run m c (happens m c w (Tick n moment)) rest) k e to

-- in a round from here on, whatever else happens in it but stops
abbrev pub ArrivesInARound : Meanings → Cluster → World → Type 0
ArrivesInARound m c w =
    (nodes n e : ℕ) (k : Key) (s : Session) (to : ℕ) (a : Round) → n < nodes → to < nodes → IsOff w k n e s to
    → AreFair m c nodes w (a ∷ []) → HasRoomIn m c to k w (a ∷ []) → HasArrived (behind m c w a) k e to

-- so nobody waits for it any more after that round where it went to, unless it was handed on from there meanwhile
abbrev pub ServedInARound : Meanings → Cluster → World → Type 0
ServedInARound m c w =
    (nodes n e : ℕ) (k : Key) (s : Session) (to : ℕ) (a : Round) → n < nodes → to < nodes → IsOnItsWay w k n e s to
    → AreFair m c nodes w (a ∷ []) → HasRoomIn m c to k w (a ∷ [])
    → ((p : Parked) → In p ((behind m c w a).members to).node.parked → p.key ≢ k) ⊎ WentIn m c k to w a

-- and its sender is done with it in two
abbrev pub IsDoneInTwo : Meanings → Cluster → World → Type 0
IsDoneInTwo m c w =
    (nodes n e : ℕ) (k : Key) (s : Session) (to : ℕ) (a b : Round) → n < nodes → to < nodes → IsOff w k n e s to
    → AreFair m c nodes w (a ∷ b ∷ []) → HasRoomIn m c to k w (a ∷ b ∷ []) → (u : Session) (y : ℕ) → states (behind_all m c w (a ∷ b ∷ [])) k n ≢ Some (Sent e u y)

-- ---- 4. a request that waits is served in three rounds, or its session went to another node meanwhile

-- a tick asks every other node for the session, where the request goes on waiting and there is room for what it waits for
abbrev pub TicksAsk : Meanings → Cluster → World → Type 0
TicksAsk m c w =
    (n x : ℕ) (moment : Moment) (p : Parked) → Runs c w n → In p (w.members n).node.parked
    → is_late (setting_at c w n) moment.steady p ≡ false → is_quiet (setting_at c w n) (durable_at w n) p ≡ false → x < nodes_told c w n → x ≢ n
    → In (Want n x p.key (durable_at w n).boot p.want) (happens m c w (Tick n moment)).packets

-- a node that has the session hands it to the one that asks; one where it has ended says so
pub record WantsAreAnswered (m : Meanings) (c : Cluster) (w : World) : Type 0 where
  pub gives : (n from place boot want e : ℕ) (k : Key) (s : Session) (moment : Moment) → Runs c w n → from < nodes_told c w n → from ≢ n
      → slice_get w.packets place ≡ Some (Want from n k boot want) → states w k n ≡ Some (Active e s) → e ≢ last_number
      → IsOff (happens m c w (Deliver moment place)) k n (e + 1) s from
  pub denies : (n from place boot want e : ℕ) (k : Key) (moment : Moment) → Runs c w n → from < nodes_told c w n → from ≢ n
      → slice_get w.packets place ≡ Some (Want from n k boot want) → states w k n ≡ Some (Ended e)
      → In (No n from k boot want) (happens m c w (Deliver moment place)).packets

-- a poke serves or refuses one that waits for a session at hand, where there is one
abbrev pub PokesServe : Meanings → Cluster → World → Type 0
PokesServe m c w =
    (n : ℕ) (moment : Moment) (p : Parked) → Runs c w n → In p (w.members n).node.parked → is_settled (known (durable_at w n) p.key) ≡ true
    → length ((happens m c w (Poke n moment)).members n).node.parked + 1 ≡ length (w.members n).node.parked

-- the key is one that a node can have given; what is kept of it is kept at these nodes; and wherever it is, the session can go on, and
-- where it goes there is room
pub record CanCome (m : Meanings) (c : Cluster) (nodes : ℕ) (w : World) (n : ℕ) (k : Key) (rounds : List Round) : Type 0 where
  pub counts : 0 < k.serial
  pub among : (x : ℕ) → states w k x ≢ None → x < nodes
  pub goes : (x e : ℕ) (s : Session) (to : ℕ) → IsOnItsWay w k x e s to → to < nodes
  pub epochs : (x e : ℕ) (s : Session) → states w k x ≡ Some (Active e s) → x ≢ n → e < last_number
  pub epochs_off : (x e : ℕ) (s : Session) (to : ℕ) → IsOnItsWay w k x e s to → to ≢ n → e < last_number
  pub room : HasRoomIn m c n k w rounds
  pub room_off : (x e : ℕ) (s : Session) (to : ℕ) → IsOnItsWay w k x e s to → HasRoomIn m c to k w rounds

-- the session was handed over in one of these events, by any node but to this one
abbrev pub IsHandedElsewhere : ℕ → Key → World → World → Type 0
IsHandedElsewhere n k w v = (x : ℕ) × (h : WasHanded k x w v) × (h.to ≢ n)

abbrev pub WentElsewhere : Meanings → Cluster → ℕ → Key → World → List WorldEvent → Type 0
WentElsewhere m c n k w [] = ⊥
WentElsewhere m c n k w (e ∷ es) = IsHandedElsewhere n k w (happens m c w e) ⊎ WentElsewhere m c n k (happens m c w e) es

abbrev pub WentElsewhereIn : Meanings → Cluster → ℕ → Key → World → List Round → Type 0
WentElsewhereIn m c n k w [] = ⊥
WentElsewhereIn m c n k w (a ∷ rs) = WentElsewhere m c n k w a.ticks ⊎ (WentElsewhere m c n k (ticked m c w a) a.rest ⊎ WentElsewhereIn m c n k (behind m c w a) rs)

abbrev pub IsServed : Meanings → Cluster → World → Type 0
IsServed m c w =
    (nodes n : ℕ) (p : Parked) (a b d : Round) → n < nodes → In p (w.members n).node.parked
    → AreFair m c nodes w (a ∷ b ∷ d ∷ []) → CanCome m c nodes w n p.key (a ∷ b ∷ d ∷ [])
    → (In p ((behind_all m c w (a ∷ b ∷ d ∷ [])).members n).node.parked → ⊥) ⊎ WentElsewhereIn m c n p.key w (a ∷ b ∷ d ∷ [])

-- in two, where the session isn't on its way to another node
abbrev pub IsServedInTwo : Meanings → Cluster → World → Type 0
IsServedInTwo m c w =
    (nodes n : ℕ) (p : Parked) (a b : Round) → n < nodes → In p (w.members n).node.parked
    → ((x e : ℕ) (s : Session) (to : ℕ) → IsOnItsWay w p.key x e s to → to ≡ n) → AreFair m c nodes w (a ∷ b ∷ []) → CanCome m c nodes w n p.key (a ∷ b ∷ [])
    → (In p ((behind_all m c w (a ∷ b ∷ [])).members n).node.parked → ⊥) ⊎ WentElsewhereIn m c n p.key w (a ∷ b ∷ [])

-- ---- 5. so it is served in as many times three rounds, but for those in which its session went to another node

-- three rounds
pub record Window : Type 0 where
  pub first : Round
  pub second : Round
  pub third : Round

abbrev pub rounds_of : Window → List Round
rounds_of r = r.first ∷ r.second ∷ r.third ∷ []

abbrev pub behind_windows : Meanings → Cluster → World → List Window → World
behind_windows m c w [] = w
behind_windows m c w (r ∷ rs) = behind_windows m c (behind_all m c w (rounds_of r)) rs

-- each is fair, and the session can come in it
abbrev pub AreWindows : Meanings → Cluster → ℕ → ℕ → Key → World → List Window → Type 0
AreWindows m c nodes n k w [] = ⊤
AreWindows m c nodes n k w (r ∷ rs) =
    (AreFair m c nodes w (rounds_of r) × CanCome m c nodes w n k (rounds_of r)) × AreWindows m c nodes n k (behind_all m c w (rounds_of r)) rs

-- in each of them it went to another node
abbrev pub AlwaysElsewhere : Meanings → Cluster → ℕ → Key → World → List Window → Type 0
AlwaysElsewhere m c n k w [] = ⊤
AlwaysElsewhere m c n k w (r ∷ rs) = WentElsewhereIn m c n k w (rounds_of r) × AlwaysElsewhere m c n k (behind_all m c w (rounds_of r)) rs

abbrev pub IsServedAtLast : Meanings → Cluster → World → Type 0
IsServedAtLast m c w =
    (nodes n : ℕ) (p : Parked) (rs : List Window) → n < nodes → In p (w.members n).node.parked → AreWindows m c nodes n p.key w rs
    → (In p ((behind_windows m c w rs).members n).node.parked → ⊥) ⊎ AlwaysElsewhere m c n p.key w rs

-- where it has ended, in two rounds, whatever others do
abbrev pub IsDeniedInTwo : Meanings → Cluster → World → Type 0
IsDeniedInTwo m c w =
    (nodes n x e : ℕ) (p : Parked) (a b : Round) → n < nodes → x < nodes → In p (w.members n).node.parked → states w p.key x ≡ Some (Ended e)
    → AreFair m c nodes w (a ∷ b ∷ []) → HasRoomIn m c n p.key w (a ∷ b ∷ [])
    → In p ((behind_all m c w (a ∷ b ∷ [])).members n).node.parked → ⊥

-- ---- 6. a session that has expired ends

-- it is active at the node, and has expired by this time of the clock as it is set
pub record HasExpired (w : World) (n now : ℕ) (k : Key) : Type 0 where
  pub epoch : ℕ
  pub session : Session
  pub active : states w k n ≡ Some (Active epoch session)
  pub expired : is_expired session now ≡ true

-- none that hasn't yet comes to be so in these events
abbrev pub NoneExpires : Meanings → Cluster → ℕ → ℕ → World → List WorldEvent → Type 0
NoneExpires m c n now w [] = ⊤
NoneExpires m c n now w (e ∷ es) = ((k : Key) → HasExpired (happens m c w e) n now k → HasExpired w n now k) × NoneExpires m c n now (happens m c w e) es

-- a tick of the node at this time
abbrev pub is_tick : ℕ → ℕ → WorldEvent → Bool
is_tick n now (Ask x moment token r) = false
is_tick n now (Deliver moment place) = false
is_tick n now (Poke x moment) = false
is_tick n now (Tick x moment) = (x == n) && (moment.now == now)
is_tick n now (Move x moment k to) = false
is_tick n now (Crash x) = false
is_tick n now (Torn x moment given kept) = false
is_tick n now (Silent x moment given) = false
is_tick n now (Restart x) = false
is_tick n now (TornRestart x kept) = false

abbrev pub ticks_in : ℕ → ℕ → List WorldEvent → ℕ
ticks_in n now [] = 0
ticks_in n now (e ∷ es) = cond (is_tick n now e) 1 0 + ticks_in n now es

-- these are at least all that have expired at the node; after as many ticks none is active there that has
abbrev pub TicksEndSessions : Meanings → Cluster → World → Type 0
TicksEndSessions m c w =
    (n now : ℕ) (keys : List Key) (events : List WorldEvent) → Runs c w n → AreSteps events → NoneExpires m c n now w events
    → ((k : Key) → HasExpired w n now k → In k keys) → length keys ≤ ticks_in n now events → (k : Key) → HasExpired (run m c w events) n now k → ⊥

-- ---- all of it

pub record IsProgress (m : Meanings) (c : Cluster) (w : World) : Type 0 where
  pub kept : NobodyIsForgotten m c w
  pub in_time : TicksEndWaiting m c w
  pub epochs_rise : EpochsRise m c w
  pub stays_at_hand : StaysAtHand m c w
  pub arrives_by_tick : ArrivesByTick m c w
  pub arrives : ArrivesInARound m c w
  pub served_there : ServedInARound m c w
  pub done : IsDoneInTwo m c w
  pub ask : TicksAsk m c w
  pub answered : WantsAreAnswered m c w
  pub poked : PokesServe m c w
  pub served : IsServed m c w
  pub served_in_two : IsServedInTwo m c w
  pub served_at_last : IsServedAtLast m c w
  pub denied : IsDeniedInTwo m c w
  pub expired : TicksEndSessions m c w
