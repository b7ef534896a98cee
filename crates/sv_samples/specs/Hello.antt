-- What the servlet does that says hello.
use Rattle.std.specs.Prelude.{codes}
use Rattle.sv_servlet.specs.Call.{Asked}
use Rattle.sv_servlet.specs.declared.servlet.Next.{Next}
use Rattle.sv_servlet.specs.declared.servlet.Next.TheVariants.{Done}
use Rattle.sv_web.specs.Steps.{plain_text, written}
use Rattle.sv_web.specs.Work.{Work}

-- `Hello` and a line feed, as plain text, whatever is asked
abbrev pub hello : Asked → Work Next
hello call = plain_text (written (codes "Hello\n") Done)
