use Rattle.example_cart.proofs.JoinLemmas.{page_5}
use Rattle.example_cart.specs.Pages.{catalogue_page}
use Rattle.example_cart.proofs.pages.catalogue_page.Goals as goal

pub returns : goal.returns
unfolding catalogue_page
returns c = page_5 _ _ _ _ _ _ _ _ _ _ _ c.new-page.ensures (rw c.catalogue_path.ensures at c.in_ok-write_head.ensures) c.in_ok-write.ensures c.in_ok-write_rows.ensures c.in_ok-write-2.ensures c.in_ok-write_foot.ensures
