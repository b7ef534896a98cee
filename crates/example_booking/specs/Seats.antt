-- The seats.
use Rattle.std.specs.Prelude.{ℕ, ◌==◌, nat_lt, ◌++◌, codes, decimal, Option, Some, None, unwrap_or, if◌then◌else◌}
use Rattle.sv_servlet.specs.Call.{Asked}
use Rattle.sv_servlet.specs.declared.servlet.Next.{Next}
use Rattle.sv_servlet.specs.declared.servlet.Next.TheVariants.{Done, SendError}
use Rattle.sv_web.specs.Attributes.{get_number, set_number}
use Rattle.sv_web.specs.Numeral.{number_in}
use Rattle.sv_web.specs.Request.{parameter}
use Rattle.sv_web.specs.Steps.{plain_text, written}
use Rattle.sv_web.specs.Work.{Ends, Work}

-- a number of the hall's seats, 1 to 40; 0 for any other
abbrev pub seat_in : Option ℕ → ℕ
seat_in None = 0
seat_in (Some n) = if nat_lt n 41 then n else 0

abbrev pub seat_of : Asked → ℕ
seat_of call = seat_in (number_in 64 (unwrap_or (parameter call.params (codes "seat")) (codes "")))

abbrev pub shown : ℕ → Work Next
shown seat = written (codes "seat " ++ decimal seat ++ codes "\n") Done

unfoldable pub booked : ℕ → Work Next
booked seat = if seat == 0 then Ends (SendError 400 (codes "seats are 1 to 40")) else set_number (codes "seat") seat (shown seat)

abbrev pub asked : Asked → Work Next
asked call = plain_text (get_number (codes "seat") (λ n. shown (unwrap_or n 0)))

abbrev pub taken : Asked → Work Next
taken call = plain_text (booked (seat_of call))
