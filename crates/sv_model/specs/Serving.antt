-- A request that is served: by the session that it names where that is active here, or without it.
use Rattle.std.specs.Prelude.{ℕ, ◌+◌, ◌==◌, Bool, true, false, cond, is_some, Option, Some, None, List, [], ◌∷◌}
use Rattle.std.specs.FinMap.{get, insert, remove}
use Rattle.sv_model.specs.declared.key.Key.{Key}
use Rattle.sv_model.specs.declared.key.Secret.{Secret}
use Rattle.sv_model.specs.declared.key.Moment.{Moment}
use Rattle.sv_model.specs.declared.key.Token.{Token}
use Rattle.sv_model.specs.declared.request.Request.{Request}
use Rattle.sv_model.specs.declared.session.Session.{Session}
use Rattle.sv_model.specs.declared.state.KeyState.{KeyState}
use Rattle.sv_model.specs.declared.state.KeyState.TheVariants.{Active, Sent, Gone, Ended}
use Rattle.sv_model.specs.declared.record.Change.{Change}
use Rattle.sv_model.specs.declared.record.Change.TheVariants.{Absent as Unchanged, Alive as ChangeAlive, Ended as ChangeEnded}
use Rattle.sv_model.specs.declared.record.Record.{Record}
use Rattle.sv_model.specs.declared.record.Record.TheVariants.{Commit as CommitRecord}
use Rattle.sv_model.specs.declared.commit.Commit.TheVariants.{Served}
use Rattle.sv_model.specs.declared.outcome.Outcome.{Outcome}
use Rattle.sv_model.specs.declared.outcome.Fate.{Fate}
use Rattle.sv_model.specs.declared.outcome.Fate.TheVariants.{Untouched, Kept, Ended as FateEnded}
use Rattle.sv_model.specs.declared.outcome.Birth.{Birth}
use Rattle.sv_model.specs.declared.outcome.Birth.TheVariants.{Absent, Alive, Ended as BirthEnded}
use Rattle.sv_model.specs.declared.output.Output.TheVariants.{Answer, Refuse}
use Rattle.sv_model.specs.declared.output.Cause.{Cause}
use Rattle.sv_model.specs.declared.output.Cause.TheVariants.{TableFull, SerialsSpent}
use Rattle.sv_model.specs.Container.{held_by}
use Rattle.sv_model.specs.Engine.{EngineMeaning}
use Rattle.sv_model.specs.NodeState.{Setting, Keys, Durable, Parked, Node, last_number, session_in, is_own, is_full}
use Rattle.sv_model.specs.Decision.{Decision, idle}

-- the key and the secret of a session that is made, and the secret of one whose id is changed; the serial is 0 where
-- none is left
abbrev pub fresh_of : Setting → Durable → Moment → Key × Secret
fresh_of set d moment = (record { home = set.node; serial = cond (d.next == last_number) 0 d.next }, moment.secret)

-- the session that the request names, where it is active here
abbrev pub held_in : Keys → Option (Key × Secret) → Option (Key × Session)
held_in keys named = held_by (λ k. session_in (get keys k)) named

-- what the engine answers
abbrev pub answer_of : EngineMeaning → Setting → Durable → Moment → Request → Outcome
answer_of m set d moment r = m.serve r (held_in d.keys (m.names r)) moment.now (fresh_of set d moment)

abbrev pub is_birth : Birth → Bool
is_birth Absent = false
is_birth (Alive s) = true
is_birth BirthEnded = true

-- a session that is kept stays active at its epoch
abbrev pub kept_at : Key → Session → Option KeyState → Keys → Keys
kept_at k s None keys = keys
kept_at k s (Some (Active e old)) keys = insert keys k (Active e s)
kept_at k s (Some (Sent e old to)) keys = keys
kept_at k s (Some (Gone e)) keys = keys
kept_at k s (Some (Ended e)) keys = keys

-- a session has ended at an epoch: its key is kept so, or is forgotten where it is of the home whose keys are
abbrev pub over_at : Option ℕ → Key → ℕ → Keys → Keys
over_at home k e keys = cond (is_own home k) (remove keys k) (insert keys k (Ended e))

-- one that is ended has ended at its epoch
abbrev pub ended_at : Option ℕ → Key → Option KeyState → Keys → Keys
ended_at home k None keys = keys
ended_at home k (Some (Active e old)) keys = over_at home k e keys
ended_at home k (Some (Sent e old to)) keys = keys
ended_at home k (Some (Gone e)) keys = keys
ended_at home k (Some (Ended e)) keys = keys

-- the keys after what became of the session that is named
abbrev pub fated_keys : Option ℕ → Option (Key × Secret) → Fate → Keys → Keys
fated_keys home None fate keys = keys
fated_keys home (Some named) Untouched keys = keys
fated_keys home (Some named) (Kept s) keys = kept_at named.0 s (get keys named.0) keys
fated_keys home (Some named) FateEnded keys = ended_at home named.0 (get keys named.0) keys

-- the keys after what became of the session that was made: its epoch is 1
abbrev pub born_keys : Option ℕ → Key → Birth → Keys → Keys
born_keys home k Absent keys = keys
born_keys home k (Alive s) keys = insert keys k (Active 1 s)
born_keys home k BirthEnded keys = over_at home k 1 keys

abbrev pub next_with : Birth → ℕ → ℕ
next_with Absent next = next
next_with (Alive s) next = next + 1
next_with BirthEnded next = next + 1

-- what is kept after an outcome
abbrev pub kept_with : Option (Key × Secret) → Key → Outcome → Durable → Durable
kept_with named fresh out d = record d { keys = born_keys d.home fresh out.birth (fated_keys d.home named out.fate d.keys); next = next_with out.birth d.next }

-- what a record says of the session that is named, and of the one that was made
abbrev pub named_change : Option (Key × Secret) → Fate → Change
named_change None fate = Unchanged
named_change (Some named) Untouched = Unchanged
named_change (Some named) (Kept s) = ChangeAlive named.0 s
named_change (Some named) FateEnded = ChangeEnded named.0

abbrev pub born_change : Key → Birth → Change
born_change k Absent = Unchanged
born_change k (Alive s) = ChangeAlive k s
born_change k BirthEnded = ChangeEnded k

-- a record, where something has changed
abbrev pub entry_of : Change → Change → Option Record
entry_of Unchanged Unchanged = None
entry_of Unchanged (ChangeAlive k s) = Some (CommitRecord Unchanged (ChangeAlive k s))
entry_of Unchanged (ChangeEnded k) = Some (CommitRecord Unchanged (ChangeEnded k))
entry_of (ChangeAlive k s) born = Some (CommitRecord (ChangeAlive k s) born)
entry_of (ChangeEnded k) born = Some (CommitRecord (ChangeEnded k) born)

abbrev pub token_of : Setting → Durable → ℕ → Token
token_of set d number = record { number = number; node = set.node; boot = d.boot }

-- the request is answered; `waiting` stays parked
abbrev pub answered : EngineMeaning → Setting → Node → Moment → ℕ → Request → Outcome → List Parked → Decision
answered m set n moment token r out waiting =
    let fresh = fresh_of set n.durable moment in
    record {
      entry = entry_of (named_change (m.names r) out.fate) (born_change fresh.0 out.birth);
      commit = Some (Served (token_of set n.durable token) r moment.now (is_some (held_in n.durable.keys (m.names r))) fresh);
      events = out.events;
      mark = None;
      outputs = Answer token out.response ∷ [];
      durable = kept_with (m.names r) fresh.0 out n.durable;
      parked = waiting;
      next_want = n.next_want;
    }

-- the request is refused, and nothing was done for it; `waiting` stays parked
abbrev pub refused : Node → ℕ → Cause → List Parked → Decision
refused n token cause waiting = record (idle n (Refuse token cause ∷ [])) { parked = waiting }

-- a session that is made wants a serial, and room for its key
abbrev pub no_birth : Setting → Durable → Birth → Option Cause
no_birth set d birth = cond (is_birth birth) (cond (d.next == last_number) (Some SerialsSpent) (cond (is_full set d) (Some TableFull) None)) None

abbrev pub answered_unless : Option Cause → EngineMeaning → Setting → Node → Moment → ℕ → Request → Outcome → List Parked → Decision
answered_unless None m set n moment token r out waiting = answered m set n moment token r out waiting
answered_unless (Some cause) m set n moment token r out waiting = refused n token cause waiting

-- the request is served, with the session that it names where that is active here
abbrev pub served : EngineMeaning → Setting → Node → Moment → ℕ → Request → List Parked → Decision
served m set n moment token r waiting =
    let out = answer_of m set n.durable moment r in
    answered_unless (no_birth set n.durable out.birth) m set n moment token r out waiting
