use Rattle.std.proofs.Common.{arith}
use Rattle.sv_model.specs.Attributes.{IsAboveAll, attributes_size}
use Rattle.test_memory.proofs.cases.model.push_first.Goals as goal

pub push-requires-clause-above : goal.push-requires-clause-above
unfolding IsAboveAll
push-requires-clause-above c = rw c.requires tt

pub push-requires-clause-fits : goal.push-requires-clause-fits
unfolding attributes_size
push-requires-clause-fits c =
    rw (c.requires, c.in_ok-name.ensures, c.from_vec-value.ensures, c.in_ok-from_slice.ensures.items) (omega arith)
