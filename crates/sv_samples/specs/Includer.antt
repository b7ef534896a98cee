-- What the servlet does that puts another one's text between brackets (Jakarta Servlet 6.0, section 9.3).
use Rattle.std.specs.Prelude.{◌==◌, codes, if◌then◌else◌}
use Rattle.sv_servlet.specs.Call.{Asked}
use Rattle.sv_servlet.specs.declared.servlet.Next.{Next}
use Rattle.sv_servlet.specs.declared.servlet.Next.TheVariants.{Done, Include}
use Rattle.sv_web.specs.Request.{parameter_or}
use Rattle.sv_web.specs.Steps.{plain_text, written}
use Rattle.sv_web.specs.Work.{Work}

-- a bracket, and the include; resumed, the other bracket
abbrev pub bracketed : Asked → Work Next
bracketed c =
    if c.resume == 0 then written (codes "[") (Include (parameter_or c.params (codes "path") (codes "/hello")) 1) else written (codes "]") Done

abbrev pub includer : Asked → Work Next
includer c = plain_text (bracketed c)
