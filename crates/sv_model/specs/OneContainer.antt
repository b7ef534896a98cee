-- What holds of all that a node alone has done: its sessions are those of one container, and its answers are that
-- container's replies, in one order of all commits. Its engine means the same throughout.
use Rattle.std.specs.Prelude.{◌≡◌, ◌+◌, ◌≤◌, Option, List, [], ◌∷◌, ⊤}
use Rattle.std.specs.FinMap.{get}
use Rattle.sv_model.specs.declared.key.Key.{Key}
use Rattle.sv_model.specs.declared.key.Token.{Token}
use Rattle.sv_model.specs.declared.session.Session.{Session}
use Rattle.sv_model.specs.Engine.{EngineMeaning}
use Rattle.sv_model.specs.Container.{Store, always, nothing_stored, after, AreLawful, AllMayStand, store_with, events_with, replies_with}
use Rattle.sv_model.specs.NodeState.{Node, session_in}
use Rattle.sv_model.specs.Trace.{Item, commits_of, asked_of, replies_of, refused_of, served_of, times, arrival_behind, tokens_in}

-- the sessions that a node holds active
abbrev pub active_at : Node → Key → Option Session
active_at n k = session_in (get n.durable.keys k)

-- the commits are a run of the container; a request that was served without the session that it names has its excuse
-- since it came; and after all of them the container has these sessions
pub record IsOneContainer (m : EngineMeaning) (trace : List Item) (sessions : Key → Option Session) : Type 0 where
  pub lawful : AreLawful (always m) nothing_stored (commits_of trace)
  pub stands : AllMayStand (always m) (arrival_behind 0 trace) [] (commits_of trace)
  pub holds : (k : Key) → (after (always m) nothing_stored (commits_of trace)).map k ≡ sessions k

-- ---- answers

-- a step tells the events of its own commit, at its place in the order, and puts out that commit's reply; without a
-- commit it tells nothing and answers nobody
pub record IsFit (m : EngineMeaning) (store : Store) (i : Item) : Type 0 where
  pub events : i.events ≡ events_with (always m) store i.commit
  pub replies : i.replies ≡ replies_with (always m) store i.commit

abbrev pub AreFit : EngineMeaning → Store → List Item → Type 0
AreFit m store [] = ⊤
AreFit m store (i ∷ is) = IsFit m store i × AreFit m (store_with (always m) store i.commit) is

-- each answer is the reply of its step's own commit, and a token is answered as often as it is served; it is served or
-- refused no more often than a request came under it
pub record IsAcknowledged (m : EngineMeaning) (trace : List Item) : Type 0 where
  pub fit : AreFit m nothing_stored trace
  pub answered : (t : Token) → times t (tokens_in (replies_of trace)) ≡ times t (served_of (commits_of trace))
  pub once : (t : Token) → times t (served_of (commits_of trace)) + times t (refused_of trace) ≤ times t (asked_of trace)

-- no token is served twice, or refused twice, and one that is refused is not served
abbrev pub IsServedOnce : List Item → Type 0
IsServedOnce trace = (t : Token) → times t (served_of (commits_of trace)) + times t (refused_of trace) ≤ 1
