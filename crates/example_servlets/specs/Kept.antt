-- What the shop keeps in a session.
use Rattle.std.specs.Prelude.{ℕ, ◌+◌, ◌*◌, ◌%◌, ◌^◌, List, Option, None, Result, Ok, Err}
use Rattle.sv_model.specs.declared.key.Key.{Key}
use Rattle.sv_session.specs.Calls.{get_result, key_result}
use Rattle.sv_session.specs.Edit.{Edit}
use Rattle.sv_session.specs.declared.fault.SessionFault.{SessionFault}

abbrev pub or_none : Result (Option (List ℕ)) SessionFault → Option (List ℕ)
or_none (Ok value) = value
or_none (Err fault) = None

-- what an attribute holds; none where there is no such attribute, or no session
abbrev pub seen : Edit → List ℕ → Option (List ℕ)
seen e name = or_none (get_result e name)

-- the number of a session: that of its node, and which of that node's sessions it is
abbrev pub number_of : Result Key SessionFault → ℕ
number_of (Ok key) = key.serial % 2 ^ 56 * 256 + key.home
number_of (Err fault) = 0

abbrev pub session_number : Edit → ℕ
session_number e = number_of (key_result e)
