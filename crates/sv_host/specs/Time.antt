-- What a node takes for the time, in whole seconds.
use Rattle.std.specs.Prelude.{ℕ, ◌/◌}
use Rattle.sv_host.specs.declared.time.Time.{Time}

-- since 1970, as the machine's clock is set
abbrev pub seconds_of : Time → ℕ
seconds_of t = t.clock / 1_000

-- by the clock that nobody sets
abbrev pub steady_of : Time → ℕ
steady_of t = t.steady / 1_000
