use Rattle.sv_container.specs.Life.{AreNamedNew}
use Rattle.test_requests.specs.declared.container.noting.NotingServlet.{NotingServlet}
use Rattle.test_requests.proofs.container.cast.servlets_of.Given as goal

-- the servlets so far are as they were made
abbrev pub invariant-loop-part : goal.invariant-loop-part
invariant-loop-part g l = AreNamedNew (λ (s : NotingServlet). s.phase) l.all.items
