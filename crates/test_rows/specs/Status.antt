-- What the servlet does that answers by a status of its own.
use Rattle.std.specs.Prelude.{ℕ}
use Rattle.sv_servlet.specs.Call.{Asked}
use Rattle.sv_servlet.specs.declared.servlet.Next.{Next}
use Rattle.sv_servlet.specs.declared.servlet.Next.TheVariants.{Done}
use Rattle.sv_web.specs.Steps.{set_status}
use Rattle.sv_web.specs.Work.{Work, Ends}

abbrev pub status : ℕ → Asked → Work Next
status code call = set_status code (Ends Done)
