-- What the servlet does that changes a session's id (Jakarta Servlet 6.0, `HttpServletRequest.changeSessionId`).
use Rattle.std.specs.Prelude.{ℕ, Bool, List, codes, is_some, if◌then◌else◌}
use Rattle.sv_servlet.specs.Call.{Asked}
use Rattle.sv_servlet.specs.declared.servlet.Next.{Next}
use Rattle.sv_servlet.specs.declared.servlet.Next.TheVariants.{Done}
use Rattle.sv_web.specs.Request.{parameter}
use Rattle.sv_web.specs.Steps.{change_id, create, plain_text, written}
use Rattle.sv_web.specs.Work.{Work}

-- there is a parameter of the name
abbrev pub is_asked : Asked → List ℕ → Bool
is_asked c name = is_some (parameter c.params name)

abbrev pub confirmed : Work Next
confirmed = written (codes "renewed\n") Done

-- the id is changed a second time
unfoldable pub changed_again : Work Next
changed_again = change_id confirmed

-- where it is asked for
abbrev pub repeated : Asked → Work Next
repeated c = if is_asked c (codes "twice") then changed_again else confirmed

-- the id is changed
unfoldable pub changed : Asked → Work Next
changed c = change_id (repeated c)

-- a session is made before
unfoldable pub made : Asked → Work Next
made c = create (changed c)

-- where it is asked for
abbrev pub prepared : Asked → Work Next
prepared c = if is_asked c (codes "make") then made c else changed c

abbrev pub renew : Asked → Work Next
renew c = plain_text (prepared c)
