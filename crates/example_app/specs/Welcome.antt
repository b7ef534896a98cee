-- What the servlet answers.
use Rattle.std.specs.Prelude.{codes}
use Rattle.sv_servlet.specs.Call.{Asked}
use Rattle.sv_servlet.specs.declared.servlet.Next.{Next}
use Rattle.sv_servlet.specs.declared.servlet.Next.TheVariants.{Done}
use Rattle.sv_web.specs.Steps.{plain_text, written}
use Rattle.sv_web.specs.Work.{Work}

-- a line of plain text
abbrev pub welcome : Asked → Work Next
welcome call = plain_text (written (codes "Welcome\n") Done)
