-- What the engine of this crate's tests answers: it ends a session that is handed in, and without one it makes one.
use Rattle.std.specs.Prelude.{ℕ, pos, true, false, Option, Some, None, []}
use Rattle.sv_model.specs.declared.key.Key.{Key}
use Rattle.sv_model.specs.declared.key.Secret.{Secret}
use Rattle.sv_model.specs.declared.request.Request.{Request}
use Rattle.sv_model.specs.declared.response.Response.{Response}
use Rattle.sv_model.specs.declared.session.Session.{Session}
use Rattle.sv_model.specs.declared.outcome.Outcome.{Outcome}
use Rattle.sv_model.specs.declared.outcome.Fate.TheVariants.{Untouched, Ended as FateEnded}
use Rattle.sv_model.specs.declared.outcome.Birth.TheVariants.{Absent, Alive}
use Rattle.sv_model.specs.Engine.{EngineMeaning}

-- a session that expires after 60 seconds
abbrev pub made_at : ℕ → Key × Secret → Session
made_at now fresh = record { context = 0; secret = fresh.1; created = now; last = now; interval = pos 60; fresh = true; attributes = [] }

-- the target as it was sent, with status 200 and no fields
abbrev pub said : Request → Response
said r = record { status = 200; fields = []; body = r.raw_path; head_only = false; close = r.close }

abbrev pub turn : Request → Option (Key × Session) → ℕ → Key × Secret → Outcome
turn r None now fresh = record { response = said r; fate = Untouched; birth = Alive (made_at now fresh); events = [] }
turn r (Some held) now fresh = record { response = said r; fate = FateEnded; birth = Absent; events = [] }

-- it names the same session at each request
abbrev pub turns : Option (Key × Secret) → EngineMeaning
turns named = record { names = λ r. named; serve = turn; hear = λ heard told. heard }
