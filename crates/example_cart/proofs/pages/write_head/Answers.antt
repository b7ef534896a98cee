use Rattle.example_cart.proofs.JoinLemmas.{then_3}
use Rattle.example_cart.specs.Pages.{head}
use Rattle.example_cart.proofs.pages.write_head.Goals as goal

pub returns : goal.returns
unfolding head
returns c = then_3 _ _ _ _ _ _ _ c.in_ok-write_title.ensures c.in_ok-write_links.ensures c.in_ok-write_greeting.ensures
