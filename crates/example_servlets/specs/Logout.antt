-- Logging out.
use Rattle.std.specs.Prelude.{ℕ, List, codes, if◌then◌else◌}
use Rattle.sv_session.specs.Edit.{Edit}
use Rattle.sv_servlet.specs.Call.{Asked}
use Rattle.sv_servlet.specs.declared.servlet.Next.{Next}
use Rattle.sv_web.specs.Attributes.{has_session}
use Rattle.sv_web.specs.Page.{sent}
use Rattle.sv_web.specs.Steps.{invalidate}
use Rattle.sv_web.specs.Work.{Looking, Work}
use Rattle.example_cart.specs.Pages.{goodbye_page}
use Rattle.example_servlets.specs.Sent.{sent_on}
use Rattle.example_servlets.specs.Visits.{around}

-- the session ends, if there is one
abbrev pub left : Work Next → Work Next
left more = Looking (λ e. if has_session e then invalidate more else more)

abbrev pub sent_away : Work Next
sent_away = sent_on (codes "logout")

-- the form ends the session, and the browser is sent on to the page that says so
abbrev pub ended : Asked → Work Next
ended call = left sent_away

unfoldable pub page_of : List ℕ → ℕ → Edit → List ℕ
page_of base node e = goodbye_page (around base node e)

abbrev pub shown : ℕ → Asked → Work Next
shown node call = Looking (λ e. sent (page_of call.context_path node e))
