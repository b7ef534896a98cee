use Rattle.std.proofs.Common.{◌≤◌, length, min, arith}
use Rattle.example_cart.proofs.RowsLemmas.{one_has_ended, total_ends}
use Rattle.example_cart.proofs.cart.total_of.Goals as goal

pub returns : goal.returns
returns c =
    let over : min (length c.args.articles.now) (length c.args.quantities.now) ≤ c.loop-at.at = omega arith in
    total_ends c.args.articles.now c.args.quantities.now c.loop-at.at c.loop-at.total (one_has_ended _ _ _ over) c.loop-at.invariant.sum
