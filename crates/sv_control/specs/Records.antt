-- What is shown of a record.
use Rattle.std.specs.Prelude.{ℕ, List, [], ◌++◌, codes, decimal}
use Rattle.sv_model.specs.declared.key.Key.{Key}
use Rattle.sv_model.specs.declared.record.Change.{Change}
use Rattle.sv_model.specs.declared.record.Change.TheVariants.{Absent, Alive, Ended as ChangeEnded}
use Rattle.sv_model.specs.declared.record.Record.{Record}
use Rattle.sv_model.specs.declared.record.Record.TheVariants.{Boot, Commit, Expired, Sent as SentRecord, Taken}
use Rattle.sv_model.specs.declared.record.Record.TheVariants.{Gone as GoneRecord, State, Counters, Forgets, Counted}
use Rattle.sv_model.specs.declared.state.KeyState.{KeyState}
use Rattle.sv_model.specs.declared.state.KeyState.TheVariants.{Active, Sent, Gone, Ended}
use Rattle.sv_control.specs.Naming.{key_text}

-- what a request has made of one key; the verb says what, where the session is alive
abbrev pub change_text : List ℕ → Change → List ℕ
change_text verb Absent = []
change_text verb (Alive k s) = codes " " ++ verb ++ codes " " ++ key_text k
change_text verb (ChangeEnded k) = codes " ended " ++ key_text k

-- where a session is
abbrev pub place_part : KeyState → List ℕ
place_part (Active e s) = codes " active"
place_part (Sent e s to) = codes " sent to " ++ decimal to
place_part (Gone e) = codes " gone"
place_part (Ended e) = codes " ended"

abbrev pub epoch_of : KeyState → ℕ
epoch_of (Active e s) = e
epoch_of (Sent e s to) = e
epoch_of (Gone e) = e
epoch_of (Ended e) = e

-- what a snapshot has of a key
abbrev pub state_text : Key → KeyState → List ℕ
state_text k state = key_text k ++ place_part state ++ codes ", epoch " ++ decimal (epoch_of state)

-- what a request has made of the session that it named, and of the one that it made
abbrev pub commit_text : Change → Change → List ℕ
commit_text named born = codes "served:" ++ change_text (codes "kept") named ++ change_text (codes "made") born

-- a session's way, which the word says, to a node or from one
abbrev pub way_text : List ℕ → Key → List ℕ → ℕ → ℕ → List ℕ
way_text verb k word node e = verb ++ codes " " ++ key_text k ++ word ++ decimal node ++ codes ", epoch " ++ decimal e

abbrev pub gone_text : Key → ℕ → List ℕ
gone_text k e = codes "gone " ++ key_text k ++ codes ", epoch " ++ decimal e

-- the counters of a snapshot
abbrev pub counters_text : ℕ → ℕ → List ℕ
counters_text boot next = codes "snapshot behind start " ++ decimal boot ++ codes ", next serial " ++ decimal next

-- the first start after which the journal forgets
abbrev pub forgets_text : ℕ → ℕ → List ℕ
forgets_text home boot = codes "node " ++ decimal home ++ codes " forgets from start " ++ decimal boot

-- the head of a snapshot of a journal that forgets
abbrev pub counted_text : ℕ → ℕ → ℕ → List ℕ
counted_text home boot next = codes "node " ++ decimal home ++ codes " forgets, " ++ counters_text boot next

-- what a record says
abbrev pub record_text : Record → List ℕ
record_text (Boot boot) = codes "start " ++ decimal boot
record_text (Commit named born) = commit_text named born
record_text (Expired k) = codes "expired " ++ key_text k
record_text (SentRecord k e to s) = way_text (codes "sent") k (codes " to ") to e
record_text (Taken k e from s) = way_text (codes "taken") k (codes " from ") from e
record_text (GoneRecord k e) = gone_text k e
record_text (State k state) = state_text k state
record_text (Counters boot next) = counters_text boot next
record_text (Forgets home boot) = forgets_text home boot
record_text (Counted home boot next) = counted_text home boot next
