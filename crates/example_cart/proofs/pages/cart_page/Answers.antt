use Rattle.example_cart.proofs.JoinLemmas.{page_5}
use Rattle.example_cart.specs.Pages.{cart_page}
use Rattle.example_cart.proofs.pages.cart_page.Goals as goal

pub returns : goal.returns
unfolding cart_page
returns c = page_5 _ _ _ _ _ _ _ _ _ _ _ c.new-page.ensures c.in_ok-write_head.ensures c.in_ok-write.ensures c.in_ok-write_notice.ensures c.in_ok-write_cart.ensures c.in_ok-write_foot.ensures
