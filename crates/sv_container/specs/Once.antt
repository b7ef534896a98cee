-- Requests of one session, of which each takes effect once, however often it is sent.
use Rattle.std.specs.Prelude.{◌≡◌, ℕ, ◌+◌, ◌<◌, ◌≤◌, Bool, true, false, ◌&&◌, ⊤, List, [], ◌∷◌, Option, Some, None, is_none, is_some, min, option_map, if◌then◌else◌}
use Rattle.std.specs.Prelude.{slice_get}
use Rattle.std.specs.List.{fold}
use Rattle.sv_mapping.specs.Context.{context_at, path_in_context}
use Rattle.sv_model.specs.Container.{Store, AreLawful, always, committed, reply_of, after as run}
use Rattle.sv_model.specs.Keys.{same_key}
use Rattle.sv_model.specs.Session.{is_expired}
use Rattle.sv_model.specs.declared.commit.Commit.{Commit}
use Rattle.sv_model.specs.declared.commit.Commit.TheVariants.{Served, Expired}
use Rattle.sv_model.specs.declared.key.Key.{Key}
use Rattle.sv_model.specs.declared.key.Secret.{Secret}
use Rattle.sv_model.specs.declared.key.Token.{Token}
use Rattle.sv_model.specs.declared.outcome.Fate.{Fate}
use Rattle.sv_model.specs.declared.outcome.Fate.TheVariants.{Untouched, Kept, Ended}
use Rattle.sv_model.specs.declared.outcome.Outcome.{Outcome}
use Rattle.sv_model.specs.declared.request.Request.{Request}
use Rattle.sv_model.specs.declared.response.Response.{Response}
use Rattle.sv_model.specs.declared.session.Session.{Session}
use Rattle.sv_once.specs.Answer.{is_kept, response_of, shown}
use Rattle.sv_once.specs.Asked.{key_of, mark_of}
use Rattle.sv_once.specs.declared.choice.Choice.{Choice}
use Rattle.sv_session.specs.Edit.{begun}
use Rattle.sv_session.specs.Expiry.{joined}
use Rattle.sv_target.specs.SessionCookie.{session_cookie}
use Rattle.sv_container.specs.Admission.{is_turned_away}
use Rattle.sv_container.specs.Application.{App}
use Rattle.sv_container.specs.Recalling.{recalled, refused}
use Rattle.sv_container.specs.Serving.{Deployed, IsSound, answered_by, bared, container_meaning, place_for, served, served_in, served_new, unserved}
use Rattle.sv_container.specs.declared.admission.Admission.{Admission}
use Rattle.sv_container.specs.declared.admission.Admission.TheVariants.{Joined}
use Rattle.sv_container.specs.declared.recall.Refusal.TheVariants.{Gone}

-- a request for a path within the context, when it comes, and the key and the secret of a session that is made by it
pub record Ask : Type 0 where
  pub request : Request
  pub path : List ℕ
  pub now : ℕ
  pub fresh : Key × Secret

-- the session, as it is joined to a request
abbrev pub admitted : Key → Session → Ask → Admission
admitted key s q = Joined key (joined s q.now)

-- what comes of a request that is joined to the session
abbrev pub outcome_at : App → Key → Session → Ask → Outcome
outcome_at a key s q = served_in a q.request q.path (admitted key s q) q.now q.fresh

-- what the application answers to it
abbrev pub answer_at : App → Key → Session → Ask → Response
answer_at a key s q =
    (answered_by a q.request q.path (begun (bared (is_some a.once) (Some (key, joined s q.now))) a.number a.interval q.now q.fresh)).response

-- it is served, and not answered from memory or refused
abbrev pub counts : App → Key → Session → Ask → Bool
counts a key s q =
    is_none (recalled a.once q.request (Some (key, joined s q.now))) && is_some (served_new a q.request q.path (admitted key s q) q.now q.fresh)

-- ---- lists of requests

abbrev pub kept_in : Fate → Option Session
kept_in Untouched = None
kept_in (Kept s) = Some s
kept_in Ended = None

-- the session after a request, if it is still there
abbrev pub left : App → Key → Session → Ask → Option Session
left a key s q = kept_in (outcome_at a key s q).fate

abbrev pub left_by : App → Key → Option Session → Ask → Option Session
left_by a key None q = None
left_by a key (Some s) q = left a key s q

abbrev pub after : App → Key → Option Session → List Ask → Option Session
after a key s qs = fold (left_by a key) s qs

-- those of the requests that are served, in order
abbrev pub counts_by : App → Key → Option Session → Ask → Bool
counts_by a key None q = false
counts_by a key (Some s) q = counts a key s q

abbrev pub counting : App → Key → Option Session → List Ask → List Ask
counting a key s [] = []
counting a key s (q ∷ qs) = if counts_by a key s q then q ∷ counting a key (left_by a key s q) qs else counting a key (left_by a key s q) qs

-- how many of the requests have a key
abbrev pub one_where : Option (List ℕ) → ℕ
one_where None = 0
one_where (Some key) = 1

abbrev pub keys_in : Choice → List Ask → ℕ
keys_in c [] = 0
keys_in c (q ∷ qs) = one_where (key_of c q.request) + keys_in c qs

-- the clock does not go back from one to the next
abbrev pub Rises : ℕ → List Ask → Type 0
Rises now [] = ⊤
Rises now (q ∷ qs) = (now ≤ q.now) × Rises q.now qs

abbrev pub last_of : ℕ → List Ask → ℕ
last_of now [] = now
last_of now (q ∷ qs) = last_of q.now qs

-- ---- the law

-- the answer that was given, or that it is not kept, to a request that is sent again
abbrev pub again : Request → Response → Response
again r response = if is_kept (shown response) then response_of r (shown response) else refused Gone r

-- A request of a session that has a key and was served, and is asked again before so many others with keys came as are
-- remembered, is not served: it changes nothing but when the session was last named, tells nothing, and is answered as it was.
abbrev pub AnswersAgain : Type 0
AnswersAgain =
    (a : App) (c : Choice) (key : Key) (s : Session) (q : Ask) (its : List ℕ) (left_first : Session) (between : List Ask) (then_left : Session) (repeat : Ask)
    → a.once ≡ Some c → key_of c q.request ≡ Some its → counts a key s q ≡ true → left a key s q ≡ Some left_first
    → after a key (Some left_first) between ≡ Some then_left → keys_in c between < min c.answers 16
    → key_of c repeat.request ≡ Some its → mark_of repeat.request ≡ mark_of q.request
    → outcome_at a key then_left repeat ≡ unserved a (admitted key then_left repeat) (again repeat.request (answer_at a key s q))

-- named again, at any later moment
abbrev pub named_again : Option Session → ℕ → Option Session
named_again s now = option_map (λ t. joined t now) s

-- What a list of requests leaves is what those of them leave that are served, each once, whenever it is named again.
abbrev pub LeavesWhatCounts : Type 0
LeavesWhatCounts =
    (a : App) (key : Key) (s : Session) (requests : List Ask) (from now : ℕ) → Rises from requests → last_of from requests ≤ now
    → named_again (after a key (Some s) requests) now ≡ named_again (after a key (Some s) (counting a key (Some s) requests)) now

-- A request that names the session by its secret, while that has not expired, is joined to it.
abbrev pub IsJoined : Type 0
IsJoined =
    (d : Deployed) (r : Request) (place : ℕ) (a : App) (key : Key) (s : Session) (now : ℕ) (fresh : Key × Secret) → place_for d r.path ≡ Some place
    → slice_get d.apps place ≡ Some a → is_turned_away a.number (session_cookie a.cookie.name r.cookies a.number) s ≡ false → is_expired s now ≡ false
    → served d r (Some (key, s)) now fresh
    ≡ outcome_at a key s (record { request = r; path = path_in_context (context_at d.paths place) r.path; now = now; fresh = fresh })

-- ---- in the order of all commits

-- a request names the session of this key
abbrev pub is_for : Key → Option (Key × Secret) → Bool
is_for key None = false
is_for key (Some named) = same_key key named.0

abbrev pub ask_if : Bool → Ask → Option Ask
ask_if true q = Some q
ask_if false q = None

-- the request of a commit to which the session of this key is handed
abbrev pub ask_by : Deployed → ℕ → Key → Commit → Option Ask
ask_by d place key (Served token r now handed fresh) =
    ask_if (handed && is_for key ((container_meaning d).names r))
    (record { request = r; path = path_in_context (context_at d.paths place) r.path; now = now; fresh = fresh })
ask_by d place key (Expired k now) = None

abbrev pub with_ask : Option Ask → List Ask → List Ask
with_ask None qs = qs
with_ask (Some q) qs = q ∷ qs

-- those of a list of commits, in order
abbrev pub asks_in : Deployed → ℕ → Key → List Commit → List Ask
asks_in d place key [] = []
asks_in d place key (c ∷ cs) = with_ask (ask_by d place key c) (asks_in d place key cs)

-- the session, while it is there, is asked for in its context, by its secret, and before it has expired; and it isn't ended by time
abbrev pub IsJoinedAt : Deployed → ℕ → App → Key → Store → Commit → Type 0
IsJoinedAt d place a key store (Served token r now handed fresh) =
    handed ≡ true → is_for key ((container_meaning d).names r) ≡ true → (s : Session) → store.map key ≡ Some s
    → (place_for d r.path ≡ Some place) × ((is_turned_away a.number (session_cookie a.cookie.name r.cookies a.number) s ≡ false) × (is_expired s now ≡ false))
IsJoinedAt d place a key store (Expired k now) = same_key key k ≡ false

abbrev pub AreJoined : Deployed → ℕ → App → Key → Store → List Commit → Type 0
AreJoined d place a key store [] = ⊤
AreJoined d place a key store (c ∷ cs) =
    IsJoinedAt d place a key store c × AreJoined d place a key (committed (always (container_meaning d)) store c) cs

-- What a run of the container leaves of a session is what the requests for it leave, in that order: so the law above is about what a
-- cluster does, whose commits are such a run.
abbrev pub IsInOrder : Type 0
IsInOrder =
    (d : Deployed) → IsSound d → (place : ℕ) (a : App) (key : Key) (store : Store) (commits : List Commit) → slice_get d.apps place ≡ Some a
    → store.made key ≡ true → AreLawful (always (container_meaning d)) store commits → AreJoined d place a key store commits
    → (run (always (container_meaning d)) store commits).map key ≡ after a key (store.map key) (asks_in d place key commits)

-- And each of them is answered as the law says.
abbrev pub IsAnsweredInOrder : Type 0
IsAnsweredInOrder =
    (d : Deployed) (place : ℕ) (a : App) (key : Key) (store : Store) (token : Token) (r : Request) (now : ℕ) (fresh : Key × Secret) (s : Session)
    → slice_get d.apps place ≡ Some a → is_for key ((container_meaning d).names r) ≡ true → store.map key ≡ Some s
    → IsJoinedAt d place a key store (Served token r now true fresh)
    → reply_of (always (container_meaning d)) store (Served token r now true fresh)
    ≡ Some (token, (outcome_at a key s (record { request = r; path = path_in_context (context_at d.paths place) r.path; now = now; fresh = fresh })).response)
