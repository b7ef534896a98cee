-- Which record may stand after others.
use Rattle.std.specs.Prelude.{◌≡◌, ℕ, ◌+◌, ◌==◌, ◌&&◌, ◌||◌, Bool, true, false, not, nat_lt, is_none, List, [], ◌∷◌, Option, Some, None, ⊤}
use Rattle.std.specs.FinMap.{get}
use Rattle.sv_model.specs.declared.node.Setting.{Setting}
use Rattle.sv_model.specs.declared.node.Stage.{Stage}
use Rattle.sv_model.specs.declared.node.Stage.TheVariants.{Blank, Snapshot, Past}
use Rattle.sv_model.specs.declared.session.Session.{Session}
use Rattle.sv_model.specs.declared.key.Key.{Key}
use Rattle.sv_model.specs.declared.state.KeyState.{KeyState}
use Rattle.sv_model.specs.declared.state.KeyState.TheVariants.{Active, Sent, Gone, Ended}
use Rattle.sv_model.specs.declared.record.Change.{Change}
use Rattle.sv_model.specs.declared.record.Change.TheVariants.{Absent as Unchanged, Alive as ChangeAlive, Ended as ChangeEnded}
use Rattle.sv_model.specs.declared.record.Record.{Record}
use Rattle.sv_model.specs.declared.record.Record.TheVariants.{Boot, Commit, Expired, Sent as SentRecord, Taken}
use Rattle.sv_model.specs.declared.record.Record.TheVariants.{Gone as GoneRecord, State, Counters, Forgets, Counted}
use Rattle.sv_model.specs.NodeState.{Keys, Durable, last_number, epoch_in, known, is_unmade, has_space}
use Rattle.sv_model.specs.Replay.{applied}

abbrev pub stage_behind : Record → Stage → Stage
stage_behind (Boot boot) stage = Past
stage_behind (Commit named born) stage = Past
stage_behind (Expired k) stage = Past
stage_behind (SentRecord k e to s) stage = Past
stage_behind (Taken k e from s) stage = Past
stage_behind (GoneRecord k e) stage = Past
stage_behind (State k st) stage = stage
stage_behind (Counters boot next) stage = Snapshot
stage_behind (Forgets home boot) stage = Past
stage_behind (Counted home boot next) stage = Snapshot

abbrev pub stage_behind_if : Option Record → Stage → Stage
stage_behind_if None stage = stage
stage_behind_if (Some r) stage = stage_behind r stage

abbrev pub is_active : Option KeyState → Bool
is_active None = false
is_active (Some (Active e s)) = true
is_active (Some (Sent e s to)) = false
is_active (Some (Gone e)) = false
is_active (Some (Ended e)) = false

-- the session that a request names is active
abbrev pub fits_named : Keys → Change → Bool
fits_named keys Unchanged = true
fits_named keys (ChangeAlive k s) = is_active (get keys k)
fits_named keys (ChangeEnded k) = is_active (get keys k)

-- a session that is made has the next key, and there is space for it
abbrev pub is_next : Setting → Durable → Key → Bool
is_next set d k = (k.home == set.node) && ((k.serial == d.next) && (not (d.next == last_number) && has_space set d))

abbrev pub fits_born : Setting → Durable → Change → Bool
fits_born set d Unchanged = true
fits_born set d (ChangeAlive k s) = is_next set d k
fits_born set d (ChangeEnded k) = is_next set d k

-- the session that is handed over is the one that is active, at the next epoch
abbrev pub FitsSent : ℕ → Session → Option KeyState → Type 0
FitsSent e s None = ⊥
FitsSent e s (Some (Active f u)) = (e ≡ f + 1) × (s ≡ u)
FitsSent e s (Some (Sent f u to)) = ⊥
FitsSent e s (Some (Gone f)) = ⊥
FitsSent e s (Some (Ended f)) = ⊥

abbrev pub fits_taken : Setting → Durable → Key → ℕ → Option KeyState → Bool
fits_taken set d k e st = nat_lt (epoch_in st) e && (not (is_unmade set d k) && (not (is_none (get d.keys k)) || has_space set d))

abbrev pub fits_gone : ℕ → Option KeyState → Bool
fits_gone e None = false
fits_gone e (Some (Active f s)) = false
fits_gone e (Some (Sent f s to)) = f == e
fits_gone e (Some (Gone f)) = false
fits_gone e (Some (Ended f)) = false

abbrev pub fits_state : Setting → Durable → Key → Stage → Bool
fits_state set d k Blank = false
fits_state set d k Snapshot = is_none (get d.keys k) && (not (is_unmade set d k) && has_space set d)
fits_state set d k Past = false

abbrev pub fits_counters : Stage → Bool
fits_counters Blank = true
fits_counters Snapshot = false
fits_counters Past = false

abbrev pub Fits : Setting → Stage → Durable → Record → Type 0
Fits set stage d (Boot boot) = boot ≡ d.boot + 1
Fits set stage d (Commit named born) = (fits_named d.keys named && fits_born set d born) ≡ true
Fits set stage d (Expired k) = is_active (get d.keys k) ≡ true
Fits set stage d (SentRecord k e to s) = FitsSent e s (get d.keys k)
Fits set stage d (Taken k e from s) = fits_taken set d k e (known d k) ≡ true
Fits set stage d (GoneRecord k e) = fits_gone e (get d.keys k) ≡ true
Fits set stage d (State k st) = fits_state set d k stage ≡ true
Fits set stage d (Counters boot next) = fits_counters stage ≡ true
-- a node forgets the keys of no home but its own
Fits set stage d (Forgets home boot) = (home ≡ set.node) × (boot ≡ d.boot + 1)
Fits set stage d (Counted home boot next) = (home ≡ set.node) × (fits_counters stage ≡ true)

-- each may stand after those before it
abbrev pub AllFit : Setting → Stage → Durable → List Record → Type 0
AllFit set stage d [] = ⊤
AllFit set stage d (r ∷ rs) = Fits set stage d r × AllFit set (stage_behind r stage) (applied r d) rs
