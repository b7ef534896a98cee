use Rattle.example_cart.proofs.JoinLemmas.{then_3}
use Rattle.example_cart.specs.Pages.{lines}
use Rattle.example_cart.proofs.pages.write_lines.Goals as goal

pub returns : goal.returns
unfolding lines
returns c = then_3 _ _ _ _ _ _ _ c.in_ok-write.ensures c.in_ok-write_rows.ensures (rw c.total.ensures at c.in_ok-write_checkout.ensures)
