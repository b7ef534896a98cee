-- The session that an edit holds, lent to be changed.
use Rattle.std.specs.Borrow.{LendsIf, MutBor, Fml}
use Rattle.std.specs.Prelude.{Option, Some, None}
use Rattle.sv_model.specs.contracts.outcome.Birth.{the_row as birth_row}
use Rattle.sv_model.specs.contracts.outcome.Fate.{the_row as fate_row}
use Rattle.sv_model.specs.contracts.session.Session.{the_row as session_row}
use Rattle.sv_model.specs.declared.outcome.Birth.{Birth}
use Rattle.sv_model.specs.declared.outcome.Birth.TheVariants.{Absent, Alive, Ended as BirthEnded}
use Rattle.sv_model.specs.declared.outcome.Fate.{Fate}
use Rattle.sv_model.specs.declared.outcome.Fate.TheVariants.{Untouched, Kept, Ended as FateEnded}
use Rattle.sv_model.specs.declared.session.Session.{Session}
use Rattle.sv_session.specs.Edit.{birth_with, fate_with}
use Rattle.sv_session.specs.contracts.edit.holding.Holding.{the_row}
use Rattle.sv_session.specs.declared.edit.holding.Holding.{Holding}

abbrev pub alive_in : Birth → Option Session
alive_in Absent = None
alive_in (Alive s) = Some s
alive_in BirthEnded = None

abbrev pub kept_in : Fate → Option Session
kept_in Untouched = None
kept_in (Kept s) = Some s
kept_in FateEnded = None

-- a birth ends with the session that is left in it
abbrev pub LendsAlive : MutBor Birth → Option (MutBor Session) → Fml
LendsAlive birth session = LendsIf birth_row session_row birth session (λ s. Alive s) birth.now

-- and so does a fate
abbrev pub LendsKept : MutBor Fate → Option (MutBor Session) → Fml
LendsKept fate session = LendsIf fate_row session_row fate session (λ s. Kept s) fate.now

-- what is held ends with the session that is left in the place of the one that was held; where none is, as it was
abbrev pub LendsHeld : MutBor Holding → Option (MutBor Session) → Fml
LendsHeld h session =
    LendsIf the_row session_row h session (λ s. record h.now { fate = fate_with h.now.birth h.now.fate s; birth = birth_with h.now.birth s }) h.now
