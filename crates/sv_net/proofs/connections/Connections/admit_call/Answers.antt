use Rattle.sv_net.proofs.Prelude.{sym, ◌∙◌}
use Rattle.sv_net.proofs.SpareLemmas.{spares_but, spares_same}
use Rattle.sv_net.proofs.connections.Connections.admit_call.Goals as goal

-- the packet is put where nobody stands
pub returns-clause-spares : goal.returns-clause-spares
returns-clause-spares c =
    let place = c.in_ok-place.place in
    let old = c.args.self.now in
    let mid = c.free_place.new.self in
    spares_but place old mid c.begin.new.self (sym (c.free_place.ensures.same place) ∙ c.in_ok-place.ensures.vacant) (spares_same old mid c.free_place.ensures.same) c.begin.ensures.others
