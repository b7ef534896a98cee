-- What the servlet does that fails as it is asked to (Jakarta Servlet 6.0, section 10.9).
use Rattle.std.specs.Prelude.{ℕ, Bool, List, codes, Option, Some, None, is_some, option_map, unwrap_or, if◌then◌else◌}
use Rattle.sv_model.specs.Attributes.{value_of}
use Rattle.sv_servlet.specs.Call.{Asked}
use Rattle.sv_servlet.specs.declared.servlet.Next.{Next}
use Rattle.sv_servlet.specs.declared.servlet.Next.TheVariants.{Done, SendError, Fault}
use Rattle.sv_web.specs.Numeral.{number_in}
use Rattle.sv_web.specs.Request.{parameter}
use Rattle.sv_web.specs.Steps.{plain_text, set_header, set_status, written}
use Rattle.sv_web.specs.Work.{Work, Ends}

-- it is called as an error page
abbrev pub is_error_page : Asked → Bool
is_error_page c = is_some (value_of c.attributes (codes "jakarta.servlet.error.status_code"))

-- the code of a text: 500 where it is no number of 16 bits
abbrev pub code_in : List ℕ → ℕ
code_in text = unwrap_or (number_in 16 text) 500

abbrev pub fault_asked : Option (List ℕ) → Option Next
fault_asked name = option_map Fault name

abbrev pub error_asked : Option (List ℕ) → Option (List ℕ) → Option Next
error_asked (Some code) fault = Some (SendError (code_in code) (codes "asked"))
error_asked None fault = fault_asked fault

-- the error that it is asked for; as an error page it fails again
abbrev pub error_in : Asked → Option Next
error_in c = if is_error_page c then Some (Fault (codes "again")) else error_asked (parameter c.params (codes "code")) (parameter c.params (codes "fault"))

-- the field `x-faulty: yes` and a text
abbrev pub marked : Work Next
marked = set_header (codes "x-faulty") (codes "yes") (written (codes "faulty\n") Done)

-- and a status of its own
abbrev pub refused : Work Next
refused = set_status 418 marked

-- where it is asked for no error it refuses by itself
abbrev pub failed : Option Next → Work Next
failed (Some next) = Ends next
failed None = refused

abbrev pub faulty : Asked → Work Next
faulty c = plain_text (failed (error_in c))
