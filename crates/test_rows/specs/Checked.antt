-- What takes JSON alone.
use Rattle.sv_servlet.specs.Call.{Asked}
use Rattle.sv_servlet.specs.declared.servlet.Next.{Next}
use Rattle.sv_servlet.specs.declared.servlet.Next.TheVariants.{Done}
use Rattle.sv_web.specs.Json.{json}
use Rattle.sv_web.specs.Work.{Ends, Work}

abbrev pub checked : Asked → Work Next
checked call = json call (λ d. Ends Done)
