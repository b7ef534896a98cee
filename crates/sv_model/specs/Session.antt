-- When a session has expired (Jakarta Servlet 6.0, section "Session Timeouts").
use Rattle.std.specs.Prelude.{ℕ, pos, ◌+ℤ◌, int_lt, int_le, Bool, ◌&&◌}
use Rattle.sv_model.specs.declared.session.Session.{Session}

-- nothing has named it for its interval; an interval of 0 and less never passes
abbrev pub is_expired : Session → ℕ → Bool
is_expired s now = int_lt (pos 0) s.interval && int_le (pos s.last +ℤ s.interval) (pos now)
