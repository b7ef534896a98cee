-- The attributes of a session as texts and numbers.
use Rattle.std.specs.Prelude.{◌≡◌, ℕ, Bool, List, decimal, Option, option_and_then, Result, Ok, Err, is_ok, ⊤}
use Rattle.sv_session.specs.Calls.{Expected, IsFaultOf, get_result, key_result}
use Rattle.sv_session.specs.Edit.{Edit}
use Rattle.sv_session.specs.declared.fault.SessionFault.{SessionFault}
use Rattle.sv_servlet.specs.declared.servlet.Next.{Next}
use Rattle.sv_web.specs.Numeral.{number_in}
use Rattle.sv_web.specs.Steps.{set_attribute, shown}
use Rattle.sv_web.specs.Work.{Work, Looking}

-- a session is held: it has a key
abbrev pub has_session : Edit → Bool
has_session e = is_ok (key_result e)

-- the number that an attribute's value is, in decimal digits and of 64 bits; none where there is no such attribute, or it is no number
abbrev pub number_of : Option (List ℕ) → Option ℕ
number_of value = option_and_then (number_in 64) value

abbrev pub numbered : Result (Option (List ℕ)) SessionFault → Result (Option ℕ) SessionFault
numbered (Ok value) = Ok (number_of value)
numbered (Err fault) = Err fault

-- the number that the attribute of a name is, or why none is shown
abbrev pub number_result : Edit → List ℕ → Result (Option ℕ) SessionFault
number_result e name = numbered (get_result e name)

-- what is done with the number that an attribute is; where no session is held, the error page of that fault
abbrev pub get_number : List ℕ → (Option ℕ → Work Next) → Work Next
get_number name more = Looking (λ e. shown more (number_result e name))

-- an attribute gets a number, in decimal digits
abbrev pub set_number : List ℕ → ℕ → Work Next → Work Next
set_number name number more = set_attribute name (decimal number) more

-- what is answered where a number is set, and what is left: what is expected, or Memory, which may be refused for the digits; after a
-- fault the edit is as it was
abbrev pub SetsNumber : Edit → Expected (Unit {0}) → Result (Unit {0}) SessionFault → Edit → Type 0
SetsNumber old expected (Ok u) new = expected ≡ Ok (u, new)
SetsNumber old expected (Err fault) new = IsFaultOf expected ⊤ fault × (new ≡ old)
