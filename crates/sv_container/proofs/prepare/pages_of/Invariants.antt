use Rattle.sv_container.proofs.Prelude.{◌≡◌, map, take}
use Rattle.sv_container.specs.Deployment as spec
use Rattle.sv_container.proofs.prepare.pages_of.Given as goal

abbrev pub invariant-loop-page : goal.invariant-loop-page
invariant-loop-page l = l.copies.items ≡ map spec.page_of (take l.page-index l.pages)
