use Rattle.example_cart.proofs.JoinLemmas.{then_6}
use Rattle.example_cart.specs.Pages.{line_html}
use Rattle.example_cart.proofs.rows.write_line.Goals as goal

pub returns : goal.returns
unfolding line_html
returns c = then_6 _ _ _ _ _ _ _ _ _ _ _ _ _ c.in_ok-write_name.ensures c.in_ok-write_cost.ensures c.in_ok-write_fields.ensures c.in_ok-write_label.ensures c.in_ok-write_value.ensures c.in_ok-write_change.ensures
