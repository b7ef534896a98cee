-- What a record says beside what it makes durable: a session with which an epoch of its key begins, and that a session has
-- come or gone.
use Rattle.std.specs.Prelude.{ℕ, Option, Some, None}
use Rattle.sv_model.specs.declared.key.Key.{Key}
use Rattle.sv_model.specs.declared.session.Session.{Session}
use Rattle.sv_model.specs.declared.event.Told.{Told}
use Rattle.sv_model.specs.declared.event.Event.TheVariants.{Passivate, Activate}
use Rattle.sv_model.specs.declared.record.Change.{Change}
use Rattle.sv_model.specs.declared.record.Change.TheVariants.{Absent as Unchanged, Alive as ChangeAlive, Ended as ChangeEnded}
use Rattle.sv_model.specs.declared.record.Record.{Record}
use Rattle.sv_model.specs.declared.record.Record.TheVariants.{Boot, Commit as CommitRecord, Expired as ExpiredRecord, Sent as SentRecord, Taken as TakenRecord}
use Rattle.sv_model.specs.declared.record.Record.TheVariants.{Gone as GoneRecord, State as StateRecord, Counters, Forgets, Counted}

-- a session with which an epoch of a key was opened
pub record Opening : Type 0 where
  pub key : Key
  pub epoch : ℕ
  pub session : Session

-- a session that was made opens epoch 1
abbrev pub born_opening : Change → Option Opening
born_opening Unchanged = None
born_opening (ChangeAlive k s) = Some (record { key = k; epoch = 1; session = s })
born_opening (ChangeEnded k) = None

abbrev pub opening_of : Option Record → Option Opening
opening_of None = None
opening_of (Some (Boot boot)) = None
opening_of (Some (CommitRecord named born)) = born_opening born
opening_of (Some (ExpiredRecord k)) = None
opening_of (Some (SentRecord k e to s)) = Some (record { key = k; epoch = e; session = s })
opening_of (Some (TakenRecord k e from s)) = Some (record { key = k; epoch = e; session = s })
opening_of (Some (GoneRecord k e)) = None
opening_of (Some (StateRecord k st)) = None
opening_of (Some (Counters boot next)) = None
opening_of (Some (Forgets home boot)) = None
opening_of (Some (Counted home boot next)) = None

-- what listeners are told of a record that hands a session over or takes it over
abbrev pub mark_of : Option Record → Option Told
mark_of None = None
mark_of (Some (Boot boot)) = None
mark_of (Some (CommitRecord named born)) = None
mark_of (Some (ExpiredRecord k)) = None
mark_of (Some (SentRecord k e to s)) = Some (record { context = s.context; event = Passivate k })
mark_of (Some (TakenRecord k e from s)) = Some (record { context = s.context; event = Activate k })
mark_of (Some (GoneRecord k e)) = None
mark_of (Some (StateRecord k st)) = None
mark_of (Some (Counters boot next)) = None
mark_of (Some (Forgets home boot)) = None
mark_of (Some (Counted home boot next)) = None
