-- What becomes of the session that is handed in with a request, before a servlet is asked (Jakarta Servlet 6.0, chapter
-- "Sessions").
use Rattle.std.specs.Prelude.{ℕ, ◌==◌, ◌||◌, not, Bool, true, false, Option, Some, None, if◌then◌else◌}
use Rattle.std.specs.Str.{bytes_eq}
use Rattle.sv_model.specs.declared.key.Key.{Key}
use Rattle.sv_model.specs.declared.key.Secret.{Secret}
use Rattle.sv_model.specs.declared.request.Request.{Request}
use Rattle.sv_model.specs.declared.session.Session.{Session}
use Rattle.sv_model.specs.Session.{is_expired}
use Rattle.sv_once.specs.declared.choice.Choice.{Choice}
use Rattle.sv_session.specs.Expiry.{joined}
use Rattle.sv_container.specs.Recalling.{is_returning}
use Rattle.sv_container.specs.declared.admission.Admission.{Admission}
use Rattle.sv_container.specs.declared.admission.Arrival.{Arrival}
use Rattle.sv_container.specs.declared.admission.Admission.TheVariants.{Without, TurnedAway, Expired, Joined, Returned}

-- it isn't the session that the request names: it is of another context, or its secret is another (sections "Session
-- Scope" and "Cookies")
abbrev pub is_turned_away : ℕ → Option (Key × Secret) → Session → Bool
is_turned_away context None s = true
is_turned_away context (Some named) s = not (s.context == context) || not (bytes_eq s.secret.0 named.1.0)

-- one that the request names, which has expired or is joined (sections "Session Timeouts" and "Last Accessed Times")
abbrev pub expired_or_joined : Key → Session → ℕ → Admission
expired_or_joined key s now = if is_expired s now then Expired key else Joined key (joined s now)

-- one that the request does not name is turned away, unless the request comes again that gave it another secret
abbrev pub turned_away : Option Choice → ℕ → Request → Option (Key × Secret) → Key → Session → ℕ → Admission
turned_away None context r named key s now = TurnedAway
turned_away (Some c) context r named key s now = if is_returning c context r named s now then Returned key (joined s now) else TurnedAway

-- what becomes of what is handed in with a request to a context that names this session
abbrev pub admission : Option Choice → ℕ → Request → Option (Key × Secret) → Option (Key × Session) → ℕ → Admission
admission c context r named None now = Without
admission c context r named (Some handed) now =
    if is_turned_away context named handed.1 then turned_away c context r named handed.0 handed.1 now else expired_or_joined handed.0 handed.1 now

-- the key of one that has expired
abbrev pub expired_of : Admission → Option Key
expired_of Without = None
expired_of TurnedAway = None
expired_of (Expired key) = Some key
expired_of (Joined key s) = None
expired_of (Returned key s) = None

-- the key of one that is joined
abbrev pub joined_of : Admission → Option Key
joined_of Without = None
joined_of TurnedAway = None
joined_of (Expired key) = None
joined_of (Joined key s) = Some key
joined_of (Returned key s) = Some key

-- the session with which the edit begins
abbrev pub held_of : Admission → Option (Key × Session)
held_of Without = None
held_of TurnedAway = None
held_of (Expired key) = None
held_of (Joined key s) = Some (key, s)
held_of (Returned key s) = Some (key, s)

-- the session of which the client has to be told by what secret it is named now
abbrev pub renamed_of : Admission → Option (Key × Secret)
renamed_of Without = None
renamed_of TurnedAway = None
renamed_of (Expired key) = None
renamed_of (Joined key s) = None
renamed_of (Returned key s) = Some (key, s.secret)

-- the secret by which a request names the session that is joined to it
abbrev pub secret_of : Admission → Option Secret
secret_of Without = None
secret_of TurnedAway = None
secret_of (Expired key) = None
secret_of (Joined key s) = Some s.secret
secret_of (Returned key s) = None

-- one was handed in and turned away
abbrev pub is_away : Admission → Bool
is_away Without = false
is_away TurnedAway = true
is_away (Expired key) = false
is_away (Joined key s) = false
is_away (Returned key s) = false

-- what is known of the session that was handed in, once a request is served
abbrev pub arrival_of : Admission → Arrival
arrival_of a = record { joined = joined_of a; secret = secret_of a; is_away = is_away a }
