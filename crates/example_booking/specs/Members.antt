-- Who may book.
use Rattle.std.specs.Prelude.{ℕ, Bool, false, List, Option, is_some, Result, Ok, Err, codes, if◌then◌else◌}
use Rattle.sv_session.specs.Calls.{get_result}
use Rattle.sv_session.specs.Edit.{Edit}
use Rattle.sv_session.specs.declared.fault.SessionFault.{SessionFault}
use Rattle.sv_servlet.specs.declared.filter.Before.{Before}
use Rattle.sv_servlet.specs.declared.filter.Before.TheVariants.{Pass, SendError}
use Rattle.sv_web.specs.Work.{Ends, FilterWork, Looking, Work}

abbrev pub is_there : Result (Option (List ℕ)) SessionFault → Bool
is_there (Ok value) = is_some value
is_there (Err fault) = false

-- the session has a name
abbrev pub is_member : Edit → Bool
is_member e = is_there (get_result e (codes "name"))

abbrev pub members : FilterWork
members = record { before = λ call. Looking (λ e. Ends (if is_member e then Pass else SendError 403 (codes "log in first"))); after = λ call. Ends tt }
