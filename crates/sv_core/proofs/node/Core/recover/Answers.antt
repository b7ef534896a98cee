use Rattle.sv_core.proofs.Prelude.{◌≡◌, ◌≤◌, [], sym, ap, subst, ◌∙◌, Durable, Node, last_number, blank, replayed, IsRanged, node_of}
use Rattle.sv_core.proofs.RangeLemmas.{ranged_recovered}
use Rattle.sv_core.proofs.node.Core.recover.Goals as goal

pub returns-in-Ok-clause-ranged : goal.returns-in-Ok-clause-ranged
returns-in-Ok-clause-ranged g c =
    let rs = c.args.records.now in
    let k = c.replay.new.self in
    let gives : (node_of k).durable ≡ replayed blank rs = c.in-Ok.ensures.durable ∙ ap (λ (n : Node). replayed n.durable rs) c.new-core.ensures.node in
    let none : (node_of k).parked ≡ [] = ap (λ v. v.items) c.in-Ok.ensures.parked ∙ ap (λ (n : Node). n.parked) c.new-core.ensures.node in
    let first : (node_of k).next_want ≡ 1 = c.in-Ok.ensures.want ∙ ap (λ (n : Node). n.next_want) c.new-core.ensures.node in
    λ are. subst IsRanged (sym (λ i. record { durable = gives i; parked = none i; next_want = first i }))
    (ranged_recovered rs are (subst (λ n. n ≤ last_number) (ap (λ (d : Durable). d.next) gives) c.numbers-numbers.ensures.next))
