use Rattle.example_cart.proofs.KeptLemmas.{cart_read, forms_read, order_read, visit_read}
use Rattle.example_cart.proofs.laws.read_as_kept.Goals as goal

pub returns-clause-cart : goal.returns-clause-cart
returns-clause-cart c = cart_read

pub returns-clause-order : goal.returns-clause-order
returns-clause-order c = order_read

pub returns-clause-forms : goal.returns-clause-forms
returns-clause-forms c = forms_read

pub returns-clause-visit : goal.returns-clause-visit
returns-clause-visit c = visit_read
