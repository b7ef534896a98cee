use Rattle.sv_container.specs.Life.{AreNamedNew}
use Rattle.test_requests.specs.declared.container.noting.NotingFilter.{NotingFilter}
use Rattle.test_requests.proofs.container.cast.filters_of.Given as goal

-- the filters so far are as they were made
abbrev pub invariant-loop-part : goal.invariant-loop-part
invariant-loop-part g l = AreNamedNew (λ (f : NotingFilter). f.phase) l.all.items
