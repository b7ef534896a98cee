-- The theorem that the project is for, statement by statement.
--
-- How to read it. What has to be believed are these 862 lines of definitions, in this order; `check/believed` counts them, and with
-- --print it writes them out:
--     sv_model  `Session`, `Engine`, `Keys`, `Container`   one container without nodes: a map of sessions, and a list of commits
--     sv_model  `Trace`                                    what a step has done, and what is read off a list of that
--     sv_model  `NodeState`, `Decision`, `Serving`, `Waiting`, `Migration`, `Time`, `Node`   a node's step, as a table of cases
--     sv_model  `Replay`, `Opening`, `Outputs`, `Membership`   what a record makes of what a node keeps, and what steps put out
--     here      `Rules`, `Sent`, `World`                   all nodes, all packets ever sent, and the ten events with what they do
-- Each start of a node has an application, rules and a number of nodes of its own, told by a plan (`Meanings`, `Cluster`). Then, of
-- every list of events from a world in which nothing has happened, `IsHeadline` below says six things of the world after them,
-- as long as each node that runs was told of each node whose sessions live (`AlwaysKnows`):
--     1  `AtMostOne`       a session lives at one node at most
--     2  `Agree`           nodes that open the same epoch of a session open it with the same session
--     3  `IsOneContainer`  the commits of all nodes are a run of one container, whose map is what lives
--     4  `IsAcknowledged`  each answer is that container's reply to its own request, and no request is served twice
--     5  `IsTold`          listeners are told the events of that run, in its order
--     6  `IsReplay`        what is durable at a node is what its journal's records give, one after the other
-- `IsFaulty` in `Faults.antt` says which events can't happen, and that these change nothing. `HaveFitted` in `Journals.antt` says
-- what an opening may rely on. `IsProgress` in `Progress.antt` says what may be relied on while nodes run and packets get through. `Life`, `Sane` and `Waits` are the invariant by which it is proved; nobody has to believe them.
--
-- What no statement refuses is only read: that `World.antt` says what a stop can leave and what a start does; and that a step
-- which a stop has cut before its record leaves no commit, nor one without a record of which nothing has left its node, so that a
-- request that is served without a record, and not answered, has changed nothing and stands nowhere.
use Rattle.std.specs.Prelude.{◌≡◌, ◌⊎◌, ℕ, ◌+◌, ◌<◌, ◌≤◌, cond, Option, Some, None, List, [], ◌∷◌, ◌++◌, length, ⊤}
use Rattle.std.specs.List.{filter}
use Rattle.sv_model.specs.declared.key.Key.{Key}
use Rattle.sv_model.specs.declared.session.Session.{Session}
use Rattle.sv_model.specs.declared.state.KeyState.{KeyState}
use Rattle.sv_model.specs.declared.state.KeyState.TheVariants.{Active, Sent, Gone, Ended}
use Rattle.sv_model.specs.Container.{Meanings, after, AreLawful, AllMayStand, reply_of, store_with, events_with, replies_with, Store, nothing_stored}
use Rattle.sv_model.specs.declared.key.Token.{Token}
use Rattle.sv_model.specs.declared.event.Told.{Told}
use Rattle.sv_model.specs.declared.packet.Packet.{Packet}
use Rattle.sv_model.specs.declared.packet.Packet.TheVariants.{Grant}
use Rattle.sv_model.specs.declared.response.Response.{Response}
use Rattle.sv_model.specs.declared.request.Request.{Request}
use Rattle.sv_model.specs.declared.input.Input.{Input}
use Rattle.sv_model.specs.declared.input.Input.TheVariants as input
use Rattle.sv_model.specs.declared.commit.Commit.{Commit}
use Rattle.sv_model.specs.declared.commit.Commit.TheVariants.{Served, Expired}
use Rattle.sv_model.specs.Trace.{Item, commits_of, asked_of, told_of, replies_of, refused_of, served_of, times, arrival_behind, AreDistinct, tokens_in}
use Rattle.sv_model.specs.Replay.{blank, replayed}
use Rattle.sv_model.specs.NodeState.{epoch_in, known}
use Rattle.sv_model.specs.Membership.{In}
use Rattle.sv_model.specs.Opening.{Opening, mark_of}
use Rattle.sv_world.specs.declared.event.WorldEvent.{WorldEvent}
use Rattle.sv_world.specs.declared.event.WorldEvent.TheVariants.{Ask, Deliver, Poke, Tick, Move, Crash, Torn, Silent, Restart, TornRestart}
use Rattle.sv_world.specs.declared.line.Line.{Line}
use Rattle.sv_world.specs.World.{World, durable_at, items, item_at, commits_in, records_at, openings_of}

-- ---- 1. a session lives at one node at most

-- what each node knows durably of a key, whether it runs or not
abbrev pub states : World → Key → ℕ → Option KeyState
states w k x = known (durable_at w x) k

-- what a node keeps of a key is a live copy: the session is active there, or was sent to a node that has yet to reach its epoch
abbrev pub IsLive : (ℕ → Option KeyState) → Option KeyState → Session → Type 0
IsLive at None s = ⊥
IsLive at (Some (Active e x)) s = x ≡ s
IsLive at (Some (Sent e x to)) s = (x ≡ s) × (epoch_in (at to) < e)
IsLive at (Some (Gone e)) s = ⊥
IsLive at (Some (Ended e)) s = ⊥

abbrev pub IsLiveAt : World → Key → ℕ → Session → Type 0
IsLiveAt w k x s = IsLive (states w k) (states w k x) s

-- of each key one node at most has the session active, and one node at most has a live copy
pub record AtMostOne (w : World) : Type 0 where
  pub active : (k : Key) (x y e f : ℕ) (s u : Session) → states w k x ≡ Some (Active e s) → states w k y ≡ Some (Active f u) → x ≡ y
  pub live : (k : Key) (x y : ℕ) (s u : Session) → IsLiveAt w k x s → IsLiveAt w k y u → x ≡ y

-- ---- 2. opening values agree

-- a record opened the epoch of the key with the session
abbrev pub opened : List Opening → Key → ℕ → Session → Type 0
opened openings k e s = In (record { key = k; epoch = e; session = s }) openings

-- a Grant for it was sent
abbrev pub granted : List Packet → Key → ℕ → Session → ℕ → ℕ → Type 0
granted packets k e s from to = In (Grant from to k e s) packets

-- a value with which an epoch of a key was opened: by a record of a birth, of a handing over or of a taking over, or by a Grant
abbrev pub IsOpening : World → Key → ℕ → Session → Type 0
IsOpening w k e s = opened (openings_of w.trace) k e s ⊎ ((from to : ℕ) × granted w.packets k e s from to)

abbrev pub Agree : World → Type 0
Agree w = (k : Key) (e : ℕ) (s u : Session) → IsOpening w k e s → IsOpening w k e u → s ≡ u

-- ---- 3. one container, in one order

-- the commits are a run of the container; a request that was served without the session that it names has its excuse, a place
-- in the order since it came at which the container had no such session; and the container's map after all commits is just
-- what lives at the nodes
pub record IsOneContainer (m : Meanings) (w : World) : Type 0 where
  pub lawful : AreLawful m nothing_stored (commits_in w)
  pub stands : AllMayStand m (arrival_behind 0 (items w.trace)) [] (commits_in w)
  pub has : (k : Key) (x : ℕ) (s : Session) → IsLiveAt w k x s → (after m nothing_stored (commits_in w)).map k ≡ Some s
  pub only : (k : Key) (s : Session) → (after m nothing_stored (commits_in w)).map k ≡ Some s → (x : ℕ) × IsLiveAt w k x s

-- ---- 4. answers

-- the request that came with an input
abbrev pub request_in : Input → Option Request
request_in (input.Ask number r) = Some r
request_in (input.Packet p) = None
request_in input.Poke = None
request_in input.Tick = None
request_in (input.Move k to) = None

-- the request that came with an event: with a step, whole, torn or silent
abbrev pub request_of : WorldEvent → Option Request
request_of (Ask n moment number r) = Some r
request_of (Deliver moment place) = None
request_of (Poke n moment) = None
request_of (Tick n moment) = None
request_of (Move n moment k to) = None
request_of (Crash n) = None
request_of (Torn n moment given kept) = request_in given
request_of (Silent n moment given) = request_in given
request_of (Restart n) = None
request_of (TornRestart n kept) = None

-- the request came under the token
abbrev pub WasAsked : List Line → Token → Request → Type 0
WasAsked trace t r = (l : Line) × In l trace × (l.asked ≡ Some t) × (request_of l.event ≡ Some r)

-- each request that was served is one of these, under its token
abbrev pub AllServed : (Token → Request → Type 0) → List Commit → Type 0
AllServed came [] = ⊤
AllServed came (Served token r now handed fresh ∷ cs) = came token r × AllServed came cs
AllServed came (Expired k now ∷ cs) = AllServed came cs

-- each line, with the container as it was before its commit
abbrev pub AreLines : (Store → Line → Type 0) → Meanings → Store → List Line → Type 0
AreLines P m store [] = ⊤
AreLines P m store (l ∷ ls) = P store l × AreLines P m (store_with m store l.commit) ls

-- a torn or silent step answers and refuses nobody
pub record IsUnanswered (l : Line) : Type 0 where
  pub replies : (item_at l).replies ≡ []
  pub refused : (item_at l).refused ≡ []

-- a whole step puts out its own commit's reply and no other; without a commit it answers nobody
abbrev pub IsAnswered : Meanings → Store → Line → Type 0
IsAnswered m store l = cond l.whole ((item_at l).replies ≡ replies_with m store l.commit) (IsUnanswered l)

-- the whole steps
abbrev pub wholes : List Line → List Item
wholes trace = items (filter (λ l. l.whole) trace)

-- an answer: the list has one commit that served its token, that of the answering line, whose place isn't below the
-- number of commits at the request's arrival; and the response is that commit's reply there
pub record IsAnswer (m : Meanings) (w : World) (before : List Line) (l : Line) (t : Token) (response : Response) : Type 0 where
  pub commit : Commit
  pub stands : l.commit ≡ Some commit
  pub reply : reply_of m (after m nothing_stored (commits_of (items before))) commit ≡ Some (t, response)
  pub arrived : arrival_behind 0 (items w.trace) t ≤ length (commits_of (items before))
  pub once : times t (served_of (commits_in w)) ≡ 1

abbrev pub AreAnswers : Meanings → World → Type 0
AreAnswers m w =
    (before : List Line) (l : Line) (behind : List Line) (t : Token) (response : Response)
    → w.trace ≡ before ++ l ∷ behind → In (t, response) (item_at l).replies → IsAnswer m w before l t response

-- what is served is a request that came, under its own token; a request comes under a token of its own; one that is answered is
-- served, and one that was served in a whole step is answered; no token is served twice or refused twice, and one that is refused
-- is not served
pub record IsAcknowledged (m : Meanings) (w : World) : Type 0 where
  pub lines : AreLines (IsAnswered m) m nothing_stored w.trace
  pub answers : AreAnswers m w
  pub own : AllServed (WasAsked w.trace) (commits_in w)
  pub distinct : AreDistinct (asked_of (items w.trace))
  pub answered : (t : Token) → times t (tokens_in (replies_of (items w.trace))) ≡ times t (served_of (commits_of (wholes w.trace)))
  pub served : (t : Token) → times t (tokens_in (replies_of (items w.trace))) ≤ times t (served_of (commits_in w))
  pub once : (t : Token) → times t (served_of (commits_in w)) + times t (refused_of (items w.trace)) ≤ 1

-- ---- 5. listeners

-- a torn or silent step tells nothing
pub record IsUnheard (l : Line) : Type 0 where
  pub events : l.events ≡ []
  pub mark : l.mark ≡ None

-- a whole step tells the events of its commit, and after them that a session has come or gone, where its record says so
pub record IsHeard (m : Meanings) (store : Store) (l : Line) : Type 0 where
  pub events : l.events ≡ events_with m store l.commit
  pub mark : l.mark ≡ mark_of l.entry

abbrev pub IsToldLine : Meanings → Store → Line → Type 0
IsToldLine m store l = cond l.whole (IsHeard m store l) (IsUnheard l)

-- the events of the commits of whole steps, in the order of all commits
abbrev pub whole_events : Meanings → Store → List Line → List Told
whole_events m store [] = []
whole_events m store (l ∷ ls) = cond l.whole (events_with m store l.commit) [] ++ whole_events m (store_with m store l.commit) ls

-- so what was told at all nodes, without the marks, is the events of the commits of whole steps, in their order
pub record IsTold (m : Meanings) (w : World) : Type 0 where
  pub lines : AreLines (IsToldLine m) m nothing_stored w.trace
  pub told : told_of (items w.trace) ≡ whole_events m nothing_stored w.trace

-- ---- 6. journals

-- what is durable at a node is its records, one after the other
abbrev pub IsReplay : World → Type 0
IsReplay w = (n : ℕ) → durable_at w n ≡ replayed blank (records_at n w.trace)

-- ---- all of it

pub record IsHeadline (m : Meanings) (w : World) : Type 0 where
  pub one : AtMostOne w
  pub agree : Agree w
  pub container : IsOneContainer m w
  pub acknowledged : IsAcknowledged m w
  pub told : IsTold m w
  pub replay : IsReplay w
