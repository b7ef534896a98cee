use Rattle.sv_dispatch.proofs.Prelude.{◌≡◌, drop, first_page}
use Rattle.sv_dispatch.specs.Pages.{is_default}
use Rattle.sv_dispatch.proofs.page.default_page.Given as goal

abbrev pub invariant-loop-page : goal.invariant-loop-page
invariant-loop-page l = first_page (is_default) (drop l.page-index l.pages) ≡ first_page (is_default) l.pages
