use Rattle.sv_dispatch.proofs.Prelude.{◌≡◌, drop, first_page}
use Rattle.sv_dispatch.specs.Pages.{is_for_fault}
use Rattle.sv_dispatch.proofs.page.page_for_fault.Given as goal

abbrev pub invariant-loop-page : goal.invariant-loop-page
invariant-loop-page l = first_page (is_for_fault l.name) (drop l.page-index l.pages) ≡ first_page (is_for_fault l.name) l.pages
