-- Whose journal a record can be in.
use Rattle.std.specs.Prelude.{ℕ, Bool, true, false, ◌==◌, not}
use Rattle.sv_model.specs.declared.record.Change.{Change}
use Rattle.sv_model.specs.declared.record.Change.TheVariants.{Absent, Alive, Ended as ChangeEnded}
use Rattle.sv_model.specs.declared.record.Record.{Record}
use Rattle.sv_model.specs.declared.record.Record.TheVariants.{Boot, Commit, Expired, Sent as SentRecord, Taken}
use Rattle.sv_model.specs.declared.record.Record.TheVariants.{Gone as GoneRecord, State, Counters, Forgets, Counted}
use Rattle.sv_model.specs.declared.state.KeyState.{KeyState}
use Rattle.sv_model.specs.declared.state.KeyState.TheVariants.{Active, Sent, Gone, Ended}

-- a session was made, by this node or by another one
abbrev pub is_made : (ℕ → Bool) → Change → Bool
is_made by Absent = false
is_made by (Alive k s) = by k.home
is_made by (ChangeEnded k) = by k.home

-- the session is on its way to this node
abbrev pub is_sent_to : ℕ → KeyState → Bool
is_sent_to node (Active e s) = false
is_sent_to node (Sent e s to) = to == node
is_sent_to node (Gone e) = false
is_sent_to node (Ended e) = false

-- no journal of this node has the record: another node has made a session by it or forgets by it, or it sends one to this node or takes one from it
abbrev pub is_anothers : ℕ → Record → Bool
is_anothers node (Boot boot) = false
is_anothers node (Commit named born) = is_made (λ home. not (home == node)) born
is_anothers node (Expired k) = false
is_anothers node (SentRecord k e to s) = to == node
is_anothers node (Taken k e from s) = from == node
is_anothers node (GoneRecord k e) = false
is_anothers node (State k st) = is_sent_to node st
is_anothers node (Counters boot next) = false
is_anothers node (Forgets home boot) = not (home == node)
is_anothers node (Counted home boot next) = not (home == node)

-- only a journal of this node has the record: the node has made a session by it or forgets by it
abbrev pub is_own : ℕ → Record → Bool
is_own node (Boot boot) = false
is_own node (Commit named born) = is_made (λ home. home == node) born
is_own node (Expired k) = false
is_own node (SentRecord k e to s) = false
is_own node (Taken k e from s) = false
is_own node (GoneRecord k e) = false
is_own node (State k st) = false
is_own node (Counters boot next) = false
is_own node (Forgets home boot) = home == node
is_own node (Counted home boot next) = home == node
