use Rattle.example_cart.proofs.FormsLemmas.{counts_once, those_that_count}
use Rattle.example_cart.proofs.laws.each_counts_once.Goals as goal

pub returns-clause-those_that_count : goal.returns-clause-those_that_count
returns-clause-those_that_count c visit basket posts = those_that_count visit posts basket

pub returns-clause-once : goal.returns-clause-once
returns-clause-once c visit basket post between = counts_once visit post basket between
