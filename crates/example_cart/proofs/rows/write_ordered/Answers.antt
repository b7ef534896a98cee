use Rattle.example_cart.proofs.JoinLemmas.{then_3}
use Rattle.example_cart.specs.Pages.{ordered_html}
use Rattle.example_cart.proofs.rows.write_ordered.Goals as goal

pub returns : goal.returns
unfolding ordered_html
returns c = then_3 _ _ _ _ _ _ _ c.in_ok-write_name.ensures c.in_ok-write_cost.ensures c.in_ok-write.ensures
