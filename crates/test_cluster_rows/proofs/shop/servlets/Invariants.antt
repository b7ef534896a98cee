use Rattle.sv_container.specs.Life.{AreNamedNew}
use Rattle.test_cluster_rows.proofs.shop.servlets.Given as goal

-- the servlets so far are as they were made
abbrev pub invariant-loop-name : goal.invariant-loop-name
invariant-loop-name l = AreNamedNew (λ s. s.phase) l.all.items
