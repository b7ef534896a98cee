-- What the shop sends.
use Rattle.std.specs.Prelude.{ℕ, List}
use Rattle.sv_servlet.specs.declared.servlet.Next.{Next}
use Rattle.sv_servlet.specs.declared.servlet.Next.TheVariants.{Done}
use Rattle.sv_web.specs.Page.{sent}
use Rattle.sv_web.specs.Steps.{redirect, set_status}
use Rattle.sv_web.specs.Work.{Ends, Work}

-- a page is sent that says what was wrong with a form (RFC 9110, section 15.5.1)
unfoldable pub sent_back : List ℕ → Work Next
sent_back page = set_status 400 (sent page)

-- whoever asked is sent on to another page (RFC 9110, section 15.4.4)
abbrev pub sent_on : List ℕ → Work Next
sent_on path = redirect path (Ends Done)
