use Rattle.example_cart.proofs.FormsLemmas.{newer_counts, unseen_counts}
use Rattle.example_cart.proofs.laws.an_unseen_form_counts.Goals as goal

pub returns-clause-unseen : goal.returns-clause-unseen
returns-clause-unseen c visit cart posts post = unseen_counts visit post cart posts

pub returns-clause-newer : goal.returns-clause-newer
returns-clause-newer c visit cart posts post = newer_counts visit post cart posts
