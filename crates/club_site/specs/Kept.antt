-- What the club keeps in a session.
use Rattle.std.specs.Prelude.{ℕ, ◌==◌, not, Bool, List, [], codes, length, Option, None, unwrap_or, Result, Ok, Err}
use Rattle.sv_session.specs.Calls.{get_result}
use Rattle.sv_session.specs.Edit.{Edit}
use Rattle.sv_session.specs.declared.fault.SessionFault.{SessionFault}
use Rattle.sv_servlet.specs.declared.servlet.Next.{Next}
use Rattle.sv_web.specs.Steps.{editing}
use Rattle.sv_web.specs.Work.{Looking, SetValue, Work}

abbrev pub value_or_nothing : Result (Option (List ℕ)) SessionFault → List ℕ
value_or_nothing (Ok value) = unwrap_or value []
value_or_nothing (Err fault) = []

-- what an attribute holds; nothing where there is no such attribute, or no session
abbrev pub seen : Edit → List ℕ → List ℕ
seen e name = value_or_nothing (get_result e name)

-- somebody has logged in
abbrev pub is_member : Edit → Bool
is_member e = not (length (seen e (codes "name")) == 0)

-- what is done with what is to be said once, which is then forgotten
unfoldable pub flash : (List ℕ → Work Next) → Work Next
flash more = Looking (λ e. editing (SetValue (codes "flash") None) (more (seen e (codes "flash"))))
