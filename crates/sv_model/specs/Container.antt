-- The container that all nodes make up: one map of sessions, and one list of commits that lead to it.
--
-- It knows no packets, epochs or journals. A commit is either a request that was served, or a session that expired.
--
-- What the engine means may change from one start of a node to the next. A request's token names its node and the number of that
-- node's start, and the request is served under the start that it came under, or never. So the token says which meaning a request
-- is served by, and a list of commits needs nothing beside it.
use Rattle.std.specs.Prelude.{◌≡◌, ℕ, ◌≤◌, Bool, true, false, Option, Some, None, List, [], ◌∷◌, ◌++◌, take, length, ⊤}
use Rattle.std.specs.Option.{option_map, option_to_list}
use Rattle.sv_model.specs.declared.key.Key.{Key}
use Rattle.sv_model.specs.declared.key.Secret.{Secret}
use Rattle.sv_model.specs.declared.key.Token.{Token}
use Rattle.sv_model.specs.declared.request.Request.{Request}
use Rattle.sv_model.specs.declared.response.Response.{Response}
use Rattle.sv_model.specs.declared.session.Session.{Session}
use Rattle.sv_model.specs.declared.event.Told.{Told}
use Rattle.sv_model.specs.declared.event.Event.TheVariants.{Destroyed}
use Rattle.sv_model.specs.declared.outcome.Outcome.{Outcome}
use Rattle.sv_model.specs.declared.outcome.Fate.{Fate}
use Rattle.sv_model.specs.declared.outcome.Fate.TheVariants.{Untouched, Kept, Ended as FateEnded}
use Rattle.sv_model.specs.declared.outcome.Birth.{Birth}
use Rattle.sv_model.specs.declared.outcome.Birth.TheVariants.{Absent, Alive, Ended as BirthEnded}
use Rattle.sv_model.specs.declared.commit.Commit.{Commit}
use Rattle.sv_model.specs.declared.commit.Commit.TheVariants.{Served, Expired}
use Rattle.sv_model.specs.Engine.{EngineMeaning, TouchesOnlyHanded}
use Rattle.sv_model.specs.Keys.{set_key}
use Rattle.sv_model.specs.Session.{is_expired}

-- what the engine means that a node was started with, by the node and the number of its start
abbrev pub Meanings : Type 0
Meanings = ℕ → ℕ → EngineMeaning

-- the same at all nodes, from start to start
abbrev pub always : EngineMeaning → Meanings
always m = λ node boot. m

abbrev pub AllTouchOnlyHanded : Meanings → Type 0
AllTouchOnlyHanded m = (node boot : ℕ) → TouchesOnlyHanded (m node boot)

-- what a request of a token is served by
abbrev pub meaning_of : Meanings → Token → EngineMeaning
meaning_of m token = m token.node token.boot

-- the sessions by their keys, and the keys that were ever created
pub record Store : Type 0 where
  pub map : Key → Option Session
  pub made : Key → Bool

abbrev pub nothing_stored : Store
nothing_stored = record { map = λ _. None; made = λ _. false }

-- the session under the key that is named
abbrev pub held_by : (Key → Option Session) → Option (Key × Secret) → Option (Key × Session)
held_by map None = None
held_by map (Some named) = option_map (λ s. (named.0, s)) (map named.0)

abbrev pub handed_if : Bool → Option (Key × Session) → Option (Key × Session)
handed_if true held = held
handed_if false held = None

-- what a request that is served is answered
abbrev pub outcome_of : EngineMeaning → Store → Request → ℕ → Bool → Key × Secret → Outcome
outcome_of m store r now handed fresh = m.serve r (handed_if handed (held_by store.map (m.names r))) now fresh

-- the map after what became of the session that is named
abbrev pub fated : Option (Key × Secret) → Fate → (Key → Option Session) → Key → Option Session
fated None fate map = map
fated (Some named) Untouched map = map
fated (Some named) (Kept s) map = set_key map named.0 (Some s)
fated (Some named) FateEnded map = set_key map named.0 None

-- the map after what became of the session that was made
abbrev pub born : Key → Birth → (Key → Option Session) → Key → Option Session
born k Absent map = map
born k (Alive s) map = set_key map k (Some s)
born k BirthEnded map = map

-- the keys that were ever created, after a birth
abbrev pub made_with : Key → Birth → (Key → Bool) → Key → Bool
made_with k Absent made = made
made_with k (Alive s) made = set_key made k true
made_with k BirthEnded made = set_key made k true

-- the store after a request with its outcome
abbrev pub stored : Option (Key × Secret) → Key → Outcome → Store → Store
stored named fresh out store = record { map = born fresh out.birth (fated named out.fate store.map); made = made_with fresh out.birth store.made }

-- one step of the container
abbrev pub committed : Meanings → Store → Commit → Store
committed m store (Served token r now handed fresh) =
    stored ((meaning_of m token).names r) fresh.0 (outcome_of (meaning_of m token) store r now handed fresh) store
committed m store (Expired k now) = record store { map = set_key store.map k None }

-- all of them, one after the other
abbrev pub after : Meanings → Store → List Commit → Store
after m store [] = store
after m store (c ∷ cs) = after m (committed m store c) cs

-- a birth is of a key that was never created
abbrev pub IsNewKey : Store → Key → Birth → Type 0
IsNewKey store k Absent = ⊤
IsNewKey store k (Alive s) = store.made k ≡ false
IsNewKey store k BirthEnded = store.made k ≡ false

-- a session that expires is there, and its interval has passed
pub record IsExpiry (store : Store) (k : Key) (now : ℕ) : Type 0 where
  pub session : Session
  pub there : store.map k ≡ Some session
  pub expired : is_expired session now ≡ true

-- the commit may stand after the store
abbrev pub IsLawful : Meanings → Store → Commit → Type 0
IsLawful m store (Served token r now handed fresh) = IsNewKey store fresh.0 (outcome_of (meaning_of m token) store r now handed fresh).birth
IsLawful m store (Expired k now) = IsExpiry store k now

-- a run of the container: each commit may stand after those before it
abbrev pub AreLawful : Meanings → Store → List Commit → Type 0
AreLawful m store [] = ⊤
AreLawful m store (c ∷ cs) = IsLawful m store c × AreLawful m (committed m store c) cs

-- the event of a session that expired; none where it isn't there
abbrev pub expiry_events : Key → Option Session → List Told
expiry_events k None = []
expiry_events k (Some s) = record { context = s.context; event = Destroyed k } ∷ []

-- what listeners are told of a commit
abbrev pub events_of : Meanings → Store → Commit → List Told
events_of m store (Served token r now handed fresh) = (outcome_of (meaning_of m token) store r now handed fresh).events
events_of m store (Expired k now) = expiry_events k (store.map k)

-- the reply of a commit, to the token that asked
abbrev pub reply_of : Meanings → Store → Commit → Option (Token × Response)
reply_of m store (Served token r now handed fresh) = Some (token, (outcome_of (meaning_of m token) store r now handed fresh).response)
reply_of m store (Expired k now) = None

-- ---- a step with a commit or without

abbrev pub store_with : Meanings → Store → Option Commit → Store
store_with m store None = store
store_with m store (Some c) = committed m store c

abbrev pub events_with : Meanings → Store → Option Commit → List Told
events_with m store None = []
events_with m store (Some c) = events_of m store c

abbrev pub replies_with : Meanings → Store → Option Commit → List (Token × Response)
replies_with m store None = []
replies_with m store (Some c) = option_to_list (reply_of m store c)

-- ---- requests that are served without the session that they name

-- at some place since the request's arrival the map lacked the key
pub record IsExcused (m : Meanings) (commits : List Commit) (arrival : ℕ) (k : Key) : Type 0 where
  pub place : ℕ
  pub since : arrival ≤ place
  pub within : place ≤ length commits
  pub lacks : (after m nothing_stored (take place commits)).map k ≡ None

-- a commit after others: it stands after its request's arrival, and where the session that it names wasn't handed
-- in it has its excuse
abbrev pub MayStand : Meanings → (Token → ℕ) → List Commit → Commit → Type 0
MayStand m arrival before (Served token r now handed fresh) =
    (arrival token ≤ length before)
    × ((named : Key × Secret) → handed ≡ false → (meaning_of m token).names r ≡ Some named → IsExcused m before (arrival token) named.0)
MayStand m arrival before (Expired k now) = ⊤

abbrev pub AllMayStand : Meanings → (Token → ℕ) → List Commit → List Commit → Type 0
AllMayStand m arrival before [] = ⊤
AllMayStand m arrival before (c ∷ cs) = MayStand m arrival before c × AllMayStand m arrival (before ++ c ∷ []) cs
