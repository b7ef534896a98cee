use Rattle.sv_net.proofs.Prelude.{ap, refl, sym, ◌∙◌}
use Rattle.sv_net.proofs.SendingLemmas.{admits_keep, nobody_comes}
use Rattle.sv_net.proofs.SpareLemmas.{spares_but, spares_same}
use Rattle.sv_net.specs.Sending.{IsOwn}
use Rattle.sv_net.proofs.connections.Connections.begin_text.Goals as goal

-- what is left of it waits where nobody stands
pub returns-in-Some-clause-spares : goal.returns-in-Some-clause-spares
returns-in-Some-clause-spares c =
    let place = c.in-Some.place in
    let old = c.args.self.now in
    let mid = c.free_place.new.self in
    spares_but place old mid c.keep.new.self (sym (c.free_place.ensures.same place) ∙ c.in-Some.ensures.vacant) (spares_same old mid c.free_place.ensures.same) c.keep.ensures.others

pub returns-in-Some-clause-admits : goal.returns-in-Some-clause-admits
returns-in-Some-clause-admits c =
    admits_keep IsOwn c.in-Some.place _ c.args.self.now c.free_place.new.self c.keep.new.self c.free_place.ensures.same c.in-Some.ensures.vacant c.keep.ensures.kept c.keep.ensures.others
    (λ held kept. (c.write.new.text, kept.state ∙ ap (λ o. o.state) c.at.ensures))

-- nothing waits
pub returns-then-ne-clause-admits : goal.returns-then-ne-clause-admits
returns-then-ne-clause-admits c = nobody_comes IsOwn c.args.self.now c.args.self.now (λ q. refl)

pub returns-in_default-clause-admits : goal.returns-in_default-clause-admits
returns-in_default-clause-admits c = nobody_comes IsOwn c.args.self.now c.free_place.new.self c.free_place.ensures.same
