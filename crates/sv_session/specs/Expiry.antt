-- How a session is joined to a request (Jakarta Servlet 6.0, chapter "Sessions", section "Session Timeouts").
use Rattle.std.specs.Prelude.{ℕ, max, false}
use Rattle.sv_model.specs.declared.session.Session.{Session}

-- the session once a request has named it
abbrev pub joined : Session → ℕ → Session
joined s now = record s { last = max s.last now; fresh = false }
