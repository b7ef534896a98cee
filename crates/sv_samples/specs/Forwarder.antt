-- What the servlet does that hands the request on (Jakarta Servlet 6.0, section 9.4).
use Rattle.std.specs.Prelude.{codes}
use Rattle.sv_servlet.specs.Call.{Asked}
use Rattle.sv_servlet.specs.declared.servlet.Next.{Next}
use Rattle.sv_servlet.specs.declared.servlet.Next.TheVariants.{Forward}
use Rattle.sv_web.specs.Request.{parameter_or}
use Rattle.sv_web.specs.Steps.{plain_text, written}
use Rattle.sv_web.specs.Work.{Work}

-- a text that nobody will see, and the forward
abbrev pub forwarder : Asked → Work Next
forwarder c = plain_text (written (codes "lost") (Forward (parameter_or c.params (codes "to") (codes "/hello"))))
