use Rattle.sv_core.proofs.Prelude.{rules, answers_always}
use Rattle.sv_core.proofs.PlaceLemmas.{searched}
use Rattle.sv_core.proofs.places.searched.Goals as goal

pub returns-clause-found : goal.returns-clause-found
returns-clause-found c =
    let facts = c.binary_search_by_key.ensures in
    (searched c.args.key c.args.places.now c.requires c.binary_search_by_key.result facts.bound (facts.position (λ p. p.0) (answers_always _ _ _ (λ f a r g called. search rules)))).found

pub returns-clause-absent : goal.returns-clause-absent
returns-clause-absent c =
    let facts = c.binary_search_by_key.ensures in
    (searched c.args.key c.args.places.now c.requires c.binary_search_by_key.result facts.bound (facts.position (λ p. p.0) (answers_always _ _ _ (λ f a r g called. search rules)))).absent
