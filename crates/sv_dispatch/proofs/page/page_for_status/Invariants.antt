use Rattle.sv_dispatch.proofs.Prelude.{◌≡◌, drop, first_page}
use Rattle.sv_dispatch.specs.Pages.{is_for_status}
use Rattle.sv_dispatch.proofs.page.page_for_status.Given as goal

abbrev pub invariant-loop-page : goal.invariant-loop-page
invariant-loop-page l = first_page (is_for_status l.status) (drop l.page-index l.pages) ≡ first_page (is_for_status l.status) l.pages
