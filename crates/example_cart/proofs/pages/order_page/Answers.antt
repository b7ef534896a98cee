use Rattle.example_cart.proofs.JoinLemmas.{page_3}
use Rattle.example_cart.specs.Pages.{order_page}
use Rattle.example_cart.proofs.pages.order_page.Goals as goal

pub returns : goal.returns
unfolding order_page
returns c = page_3 _ _ _ _ _ _ _ c.new-page.ensures c.in_ok-write_head.ensures c.in_ok-write_order.ensures c.in_ok-write_foot.ensures
