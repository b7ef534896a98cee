use Rattle.example_cart.proofs.JoinLemmas.{then_3}
use Rattle.example_cart.specs.Pages.{ordered}
use Rattle.example_cart.proofs.pages.write_ordered.Goals as goal

pub returns : goal.returns
unfolding ordered
returns c = then_3 _ _ _ _ _ _ _ c.in_ok-write_number.ensures c.in_ok-write_rows.ensures (rw c.total.ensures at c.in_ok-write_sum.ensures)
