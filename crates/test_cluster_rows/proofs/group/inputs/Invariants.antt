use Rattle.std.specs.List.{AllByRecursion}
use Rattle.sv_model.specs.Ranges.{IsInput}
use Rattle.test_cluster_rows.proofs.group.inputs.Given as goal

-- each so far is one that a node may be given
abbrev pub invariant-loop-part : goal.invariant-loop-part
invariant-loop-part l = AllByRecursion (λ i. IsInput i.1) l.inputs.items
