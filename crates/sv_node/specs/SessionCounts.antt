-- How many sessions a node has made, and how many have ended at it, as its records tell.
use Rattle.std.specs.Prelude.{ℕ, ◌+◌, min, Option, Some, None}
use Rattle.sv_model.specs.NodeState.{last_number}
use Rattle.sv_model.specs.declared.record.Change.{Change}
use Rattle.sv_model.specs.declared.record.Change.TheVariants.{Absent, Alive, Ended}
use Rattle.sv_model.specs.declared.record.Record.{Record}
use Rattle.sv_model.specs.declared.record.Record.TheVariants.{Boot, Commit, Expired, Sent, Taken, Gone, State, Counters, Forgets, Counted}
use Rattle.sv_node.specs.declared.session_counts.SessionCounts.{SessionCounts}

-- one more, where the number can rise
abbrev pub up : ℕ → ℕ
up n = min (n + 1) last_number

-- the session that a request names has ended, by the request or since it had expired
abbrev pub with_named : Change → SessionCounts → SessionCounts
with_named Absent c = c
with_named (Alive k s) c = c
with_named (Ended k) c = record c { ended = up c.ended }

-- a session was made, and may have ended in the same request
abbrev pub with_born : Change → SessionCounts → SessionCounts
with_born Absent c = c
with_born (Alive k s) c = record c { made = up c.made }
with_born (Ended k) c = record c { made = up c.made; ended = up c.ended }

abbrev pub with_expired : SessionCounts → SessionCounts
with_expired c = record c { expired = up c.expired }

abbrev pub counted : Record → SessionCounts → SessionCounts
counted (Boot boot) c = c
counted (Commit named born) c = with_born born (with_named named c)
counted (Expired k) c = with_expired c
counted (Sent k e to s) c = c
counted (Taken k e from s) c = c
counted (Gone k e) c = c
counted (State k st) c = c
counted (Counters boot next) c = c
counted (Forgets n boot) c = c
counted (Counted n boot next) c = c

abbrev pub counted_if : Option Record → SessionCounts → SessionCounts
counted_if None c = c
counted_if (Some r) c = counted r c
