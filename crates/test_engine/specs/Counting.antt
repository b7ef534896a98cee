-- What the engine of tests answers: it counts the requests of a session.
use Rattle.std.specs.Prelude.{ℕ, ◌+◌, ◌%◌, ◌==◌, ◌&&◌, nat_lt, cond, max, pos, false, true, Option, Some, None, List, [], ◌∷◌}
use Rattle.sv_model.specs.declared.key.Key.{Key}
use Rattle.sv_model.specs.declared.key.Secret.{Secret}
use Rattle.sv_model.specs.declared.request.Request.{Request}
use Rattle.sv_model.specs.declared.response.Response.{Response}
use Rattle.sv_model.specs.declared.session.Session.{Session}
use Rattle.sv_model.specs.declared.outcome.Outcome.{Outcome}
use Rattle.sv_model.specs.declared.outcome.Fate.{Fate}
use Rattle.sv_model.specs.declared.outcome.Fate.TheVariants.{Untouched, Kept, Ended}
use Rattle.sv_model.specs.declared.outcome.Birth.TheVariants.{Absent, Alive}
use Rattle.sv_model.specs.declared.event.Event.TheVariants.{Destroyed}
use Rattle.sv_model.specs.declared.event.Told.{Told}
use Rattle.sv_model.specs.Method.{is_head}
use Rattle.sv_model.specs.Session.{is_expired}
use Rattle.sv_model.specs.Engine.{EngineMeaning}
use Rattle.sv_model.specs.NodeState.{last_number}

-- a body of two bytes names a home and a serial
abbrev pub named_by : Secret → List ℕ → Option (Key × Secret)
named_by secret [] = None
named_by secret (home ∷ []) = None
named_by secret (home ∷ serial ∷ []) = cond (nat_lt home 8 && nat_lt 0 serial) (Some (record { home = home; serial = serial }, secret)) None
named_by secret (home ∷ serial ∷ more ∷ rest) = None

-- a session has its count in the place of the second in which it was made, and expires after 60 seconds
abbrev pub first_at : ℕ → Key × Secret → Session
first_at now fresh = record { context = 0; secret = fresh.1; created = 1; last = now; interval = pos 60; fresh = true; attributes = [] }

abbrev pub counted : ℕ → ℕ
counted count = cond (count == last_number) count (count + 1)

abbrev pub again_at : ℕ → Session → Session
again_at now s = record s { created = counted s.created; last = max s.last now }

-- the last digit of a count
abbrev pub digit : ℕ → Response
digit count = record { status = 200; fields = []; body = (count % 10 + 48) ∷ []; head_only = false; close = false }

-- the first request of a session
abbrev pub begun : Fate → ℕ → Key × Secret → List Told → Outcome
begun fate now fresh events = record { response = digit 1; fate = fate; birth = Alive (first_at now fresh); events = events }

-- one more
abbrev pub kept : ℕ → Session → Outcome
kept now s = record { response = digit (counted s.created); fate = Kept (again_at now s); birth = Absent; events = [] }

-- a session that has expired is ended, and another made
abbrev pub counts_at : Option (Key × Session) → ℕ → Key × Secret → Outcome
counts_at None now fresh = begun Untouched now fresh []
counts_at (Some (k, s)) now fresh =
    cond (is_expired s now) (begun Ended now fresh (record { context = 0; event = Destroyed k } ∷ [])) (kept now s)

abbrev pub untouched : Outcome
untouched = record { response = record (digit 0) { head_only = true }; fate = Untouched; birth = Absent; events = [] }

-- a HEAD touches nothing, and is answered 0
abbrev pub count : Request → Option (Key × Session) → ℕ → Key × Secret → Outcome
count r held now fresh = cond (is_head r.method) untouched (counts_at held now fresh)

abbrev pub counts : Secret → EngineMeaning
counts secret = record { names = λ r. named_by secret r.body; serve = count; hear = λ heard told. heard }
