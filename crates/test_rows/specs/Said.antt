-- What answers a method by a text.
use Rattle.std.specs.Prelude.{ℕ, List}
use Rattle.sv_servlet.specs.Call.{Asked}
use Rattle.sv_servlet.specs.declared.servlet.Next.{Next}
use Rattle.sv_servlet.specs.declared.servlet.Next.TheVariants.{Done}
use Rattle.sv_web.specs.Steps.{written}
use Rattle.sv_web.specs.Work.{Work}

abbrev pub said : List ℕ → Asked → Work Next
said text call = written text Done
