use Rattle.example_servlets.proofs.LeftLemmas.{cart_seen, login_seen}
use Rattle.example_servlets.proofs.laws.login_leaves_the_rest.Goals as goal

pub returns-clause-cart : goal.returns-clause-cart
returns-clause-cart c = cart_seen

pub returns-clause-rest : goal.returns-clause-rest
returns-clause-rest c call l q apart = login_seen q apart call l
