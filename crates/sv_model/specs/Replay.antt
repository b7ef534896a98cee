-- What a record makes of what a node keeps. What is durable at a node is its records, one after the other.
use Rattle.std.specs.Prelude.{ℕ, ◌+◌, cond, List, [], ◌∷◌, Option, Some, None}
use Rattle.std.specs.FinMap.{get, insert, empty}
use Rattle.sv_model.specs.declared.node.Setting.{Setting}
use Rattle.sv_model.specs.declared.state.KeyState.TheVariants.{Active, Sent, Gone}
use Rattle.sv_model.specs.declared.record.Change.{Change}
use Rattle.sv_model.specs.declared.record.Change.TheVariants.{Absent as Unchanged, Alive as ChangeAlive, Ended as ChangeEnded}
use Rattle.sv_model.specs.declared.record.Record.{Record}
use Rattle.sv_model.specs.declared.record.Record.TheVariants.{Boot, Commit, Expired, Sent as SentRecord, Taken}
use Rattle.sv_model.specs.declared.record.Record.TheVariants.{Gone as GoneRecord, State, Counters, Forgets, Counted}
use Rattle.sv_model.specs.NodeState.{Keys, Durable}
use Rattle.sv_model.specs.Serving.{kept_at, ended_at, over_at}

-- no records
abbrev pub blank : Durable
blank = record { keys = empty; boot = 0; next = 1; home = None }

-- the session that a request names is kept or has ended
abbrev pub with_named : Option ℕ → Change → Keys → Keys
with_named home Unchanged keys = keys
with_named home (ChangeAlive k s) keys = kept_at k s (get keys k) keys
with_named home (ChangeEnded k) keys = ended_at home k (get keys k) keys

-- a session that was made is active or has ended, and its serial is spent
abbrev pub with_born : Option ℕ → Change → Keys → Keys
with_born home Unchanged keys = keys
with_born home (ChangeAlive k s) keys = insert keys k (Active 1 s)
with_born home (ChangeEnded k) keys = over_at home k 1 keys

abbrev pub next_by : Change → ℕ → ℕ
next_by Unchanged next = next
next_by (ChangeAlive k s) next = next + 1
next_by (ChangeEnded k) next = next + 1

-- the keys after a record, at a node that forgets those of a home
abbrev pub keys_behind : Option ℕ → Record → Keys → Keys
keys_behind home (Boot boot) keys = keys
keys_behind home (Commit named born) keys = with_born home born (with_named home named keys)
keys_behind home (Expired k) keys = ended_at home k (get keys k) keys
keys_behind home (SentRecord k e to s) keys = insert keys k (Sent e s to)
keys_behind home (Taken k e from s) keys = insert keys k (Active e s)
keys_behind home (GoneRecord k e) keys = insert keys k (Gone e)
keys_behind home (State k st) keys = insert keys k st
keys_behind home (Counters boot next) keys = keys
keys_behind home (Forgets n boot) keys = keys
keys_behind home (Counted n boot next) keys = keys

abbrev pub boot_behind : Record → ℕ → ℕ
boot_behind (Boot b) boot = b
boot_behind (Commit named born) boot = boot
boot_behind (Expired k) boot = boot
boot_behind (SentRecord k e to s) boot = boot
boot_behind (Taken k e from s) boot = boot
boot_behind (GoneRecord k e) boot = boot
boot_behind (State k st) boot = boot
boot_behind (Counters b next) boot = b
boot_behind (Forgets n b) boot = b
boot_behind (Counted n b next) boot = b

abbrev pub next_behind : Record → ℕ → ℕ
next_behind (Boot boot) next = next
next_behind (Commit named born) next = next_by born next
next_behind (Expired k) next = next
next_behind (SentRecord k e to s) next = next
next_behind (Taken k e from s) next = next
next_behind (GoneRecord k e) next = next
next_behind (State k st) next = next
next_behind (Counters boot n) next = n
next_behind (Forgets home boot) next = next
next_behind (Counted home boot n) next = n

-- the home whose keys are forgotten; no record but these two speaks of it
abbrev pub home_behind : Record → Option ℕ → Option ℕ
home_behind (Boot boot) home = home
home_behind (Commit named born) home = home
home_behind (Expired k) home = home
home_behind (SentRecord k e to s) home = home
home_behind (Taken k e from s) home = home
home_behind (GoneRecord k e) home = home
home_behind (State k st) home = home
home_behind (Counters boot next) home = home
home_behind (Forgets n boot) home = Some n
home_behind (Counted n boot next) home = Some n

-- what is kept after a record
abbrev pub applied : Record → Durable → Durable
applied r d = record { keys = keys_behind d.home r d.keys; boot = boot_behind r d.boot; next = next_behind r d.next; home = home_behind r d.home }

abbrev pub applied_if : Option Record → Durable → Durable
applied_if None d = d
applied_if (Some r) d = applied r d

-- what a start makes durable: a node that is to forget says so
abbrev pub boot_record : Setting → Durable → Record
boot_record set d = cond set.forget (Forgets set.node (d.boot + 1)) (Boot (d.boot + 1))

-- all of them, one after the other
abbrev pub replayed : Durable → List Record → Durable
replayed d [] = d
replayed d (r ∷ rs) = replayed (applied r d) rs
