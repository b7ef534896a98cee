-- When a node asks again for the sessions that its requests wait for, in milliseconds by the clock that nobody sets.
use Rattle.std.specs.Prelude.{ℕ, ◌+◌, ◌*◌, ◌^◌, ◌-◌, min, Bool, true, false, nat_lt, not, Option, Some, None}
use Rattle.sv_host.specs.declared.asking.Asking.{Asking}
use Rattle.sv_host.specs.declared.asking.TheConstants.{FIRST, LAST}

-- the clock doesn't come to its end
abbrev pub later : ℕ → ℕ → ℕ
later now pause = min (now + pause) (2 ^ 64 - 1)

abbrev pub is_due_at : Option ℕ → ℕ → Bool
is_due_at None now = false
is_due_at (Some due) now = not (nat_lt now due)

abbrev pub is_due : Asking → ℕ → Bool
is_due asking now = is_due_at asking.due now

-- where nothing is due yet, it is after the first pause
abbrev pub begun : Option ℕ → Asking → ℕ → Asking
begun None asking now = record { due = Some (later now FIRST); pause = FIRST }
begun (Some due) asking now = asking

abbrev pub at : Asking → ℕ → Bool → Asking
at asking now true = begun asking.due asking now
at asking now false = record { due = None; pause = FIRST }

-- twice as long as the last one, and no longer than the longest
abbrev pub next_pause : ℕ → ℕ
next_pause pause = min (min (pause * 2) (2 ^ 64 - 1)) LAST

abbrev pub asked : Asking → ℕ → Asking
asked asking now = record { due = Some (later now (next_pause asking.pause)); pause = next_pause asking.pause }

abbrev pub earlier : Option ℕ → ℕ → ℕ
earlier None soon = soon
earlier (Some due) soon = min due soon

abbrev pub sooner : Asking → ℕ → Asking
sooner asking now = record { due = Some (earlier asking.due (later now FIRST)); pause = FIRST }
