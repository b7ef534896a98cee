-- The state of an edit (Jakarta Servlet 6.0, chapter "Sessions").
use Rattle.std.specs.Prelude.{ℕ, ◌<◌, ℤ, Bool, true, false, Option, Some, None, List, [], ◌++◌, ◌||◌, ◌≡◌, ⊤}
use Rattle.sv_model.specs.declared.key.Key.{Key}
use Rattle.sv_model.specs.declared.key.Secret.{Secret}
use Rattle.sv_model.specs.declared.session.Session.{Session}
use Rattle.sv_model.specs.declared.event.Told.{Told}
use Rattle.sv_model.specs.declared.outcome.Fate.{Fate}
use Rattle.sv_model.specs.declared.outcome.Fate.TheVariants.{Untouched, Kept, Ended as FateEnded}
use Rattle.sv_model.specs.declared.outcome.Birth.{Birth}
use Rattle.sv_model.specs.declared.outcome.Birth.TheVariants.{Absent, Alive, Ended as BirthEnded}
use Rattle.sv_model.specs.declared.session.TheConstants.{CONTEXT_LIMIT}
use Rattle.sv_model.specs.Limits.{KeepsWithin, BringsWithin}

-- an edit: where and when it is made, the key of the session that was handed in, and what has become of all
pub record Edit : Type 0 where
  pub context : ℕ
  pub interval : ℤ
  pub now : ℕ
  pub fresh : Key × Secret
  pub handed : Option Key
  pub fate : Fate
  pub birth : Birth
  -- whether the session that was handed in has got the fresh secret in place of its own
  pub id_changed : Bool
  pub events : List Told

-- the key of the session that is handed in
abbrev pub key_of : Option (Key × Session) → Option Key
key_of None = None
key_of (Some held) = Some held.0

-- a session that is handed in is kept unless it is ended
abbrev pub fate_of : Option (Key × Session) → Fate
fate_of None = Untouched
fate_of (Some held) = Kept held.1

-- an edit at its beginning
abbrev pub begun : Option (Key × Session) → ℕ → ℤ → ℕ → Key × Secret → Edit
begun held context interval now fresh =
    record {
      context = context;
      interval = interval;
      now = now;
      fresh = fresh;
      handed = key_of held;
      fate = fate_of held;
      birth = Absent;
      id_changed = false;
      events = [];
    }

abbrev pub kept_by : Fate → Option Key → Option (Key × Session)
kept_by (Kept s) (Some k) = Some (k, s)
kept_by (Kept s) None = None
kept_by Untouched k = None
kept_by FateEnded k = None

-- the session that is held: the one that was made, or else the one that was handed in
unfoldable pub held_by : Birth → Fate → Option Key → Key × Secret → Option (Key × Session)
held_by Absent fate handed fresh = kept_by fate handed
held_by (Alive s) fate handed fresh = Some (fresh.0, s)
held_by BirthEnded fate handed fresh = kept_by fate handed

abbrev pub held_of : Edit → Option (Key × Session)
held_of e = held_by e.birth e.fate e.handed e.fresh

-- another session in the place of the one that was made
abbrev pub birth_with : Birth → Session → Birth
birth_with Absent s = Absent
birth_with (Alive old) s = Alive s
birth_with BirthEnded s = BirthEnded

-- and in the place of the one that was handed in, where none was made or that has ended
abbrev pub fate_with : Birth → Fate → Session → Fate
fate_with Absent fate s = Kept s
fate_with (Alive old) fate s = fate
fate_with BirthEnded fate s = Kept s

-- the edit with this session in the place of the one that is held
abbrev pub with_held : Edit → Session → Edit
with_held e s = record e { fate = fate_with e.birth e.fate s; birth = birth_with e.birth s }

-- the edit once the session that is held has ended
abbrev pub without_held : Edit → Edit
without_held e = end e.birth
  where
    end : Birth → Edit
    end Absent = record e { fate = FateEnded }
    end (Alive old) = record e { birth = BirthEnded }
    end BirthEnded = record e { fate = FateEnded }

-- a session was made in this edit
abbrev pub has_made : Edit → Bool
has_made e = made e.birth
  where
    made : Birth → Bool
    made Absent = false
    made (Alive s) = true
    made BirthEnded = true

-- the fresh secret was given to a session in this edit: to one that was made, or to the one that was handed in
abbrev pub has_used_secret : Edit → Bool
has_used_secret e = has_made e || e.id_changed

-- a fate that can be that of what was handed in
abbrev pub IsFateOf : Option Key → Fate → Type 0
IsFateOf None Untouched = ⊤
IsFateOf None (Kept s) = ⊥
IsFateOf None FateEnded = ⊥
IsFateOf (Some k) Untouched = ⊥
IsFateOf (Some k) (Kept s) = ⊤
IsFateOf (Some k) FateEnded = ⊤

-- what an edit leaves is within the limits of sessions
pub record IsWithin (e : Edit) : Type 0 where
  pub context : e.context < CONTEXT_LIMIT
  pub fate : KeepsWithin e.fate
  pub birth : BringsWithin e.birth

-- the edit goes on: it is for the same request, what was handed in is still all that can be kept or ended, what was
-- told stays told, and the limits are kept
pub record KeepsEdit (old new : Edit) : Type 0 where
  pub context : new.context ≡ old.context
  pub interval : new.interval ≡ old.interval
  pub now : new.now ≡ old.now
  pub fresh : new.fresh ≡ old.fresh
  pub handed : new.handed ≡ old.handed
  pub fate : IsFateOf old.handed old.fate → IsFateOf new.handed new.fate
  pub events : (more : List Told) × (new.events ≡ old.events ++ more)
  pub within : IsWithin old → IsWithin new
