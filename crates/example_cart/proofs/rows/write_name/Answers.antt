use Rattle.example_cart.proofs.JoinLemmas.{then_3}
use Rattle.example_cart.specs.Pages.{name_html}
use Rattle.example_cart.proofs.rows.write_name.Goals as goal

pub returns : goal.returns
unfolding name_html
returns c = then_3 _ _ _ _ _ _ _ c.in_ok-write.ensures c.in_ok-write_shapes.ensures (rw c.as_bytes.ensures.value at c.in_ok-write-2.ensures)
