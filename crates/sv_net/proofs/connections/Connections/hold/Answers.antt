use Rattle.sv_net.proofs.Prelude.{ap, sym, ◌∙◌, Continues, waits}
use Rattle.sv_net.proofs.ContinueLemmas.{all_but, continues_same, taken_goes_on, with_put}
use Rattle.sv_net.proofs.PlaceLemmas.{put_holds, taken_held}
use Rattle.sv_net.proofs.SpareLemmas.{clients_back, clients_but}
use Rattle.sv_net.proofs.connections.Connections.hold.Goals as goal

-- nobody stands there
pub returns-in_default-take-clause-go_on : goal.returns-in_default-take-clause-go_on
returns-in_default-take-clause-go_on c =
    all_but c.in-Some.call c.args.self.now c.take.new.self (taken_held c.in-Some.call c.args.self.now c.take.new.self c.take.ensures.places) c.take.ensures.others

-- no client stands where a packet is on its way
pub returns-in-Calling-clause-spares : goal.returns-in-Calling-clause-spares
returns-in-Calling-clause-spares c =
    clients_but c.in-Some.call c.in-Some-take.open c.args.self.now c.seat.new.self (sym c.take.ensures.taken ∙ c.in-Some-take.is) (ap waits c.in-Calling.is)
    (c.seat.ensures.others ∙ c.take.ensures.others)

pub returns-in-Calling-clause-go_on : goal.returns-in-Calling-clause-go_on
returns-in-Calling-clause-go_on c =
    let place = c.in-Some.call in
    let one = c.in-Some-take.open in
    let old = c.args.self.now in
    let mid = c.take.new.self in
    taken_goes_on place one old mid c.seat.new.self (sym c.take.ensures.taken ∙ c.in-Some-take.is) (taken_held place old mid c.take.ensures.places) c.take.ensures.others
    (with_put place one mid c.seat.new.self (put_holds (λ held. Continues one held) place c.held_for.result mid c.seat.new.self c.seat.ensures.places c.held_for.ensures) c.seat.ensures.others)

-- whoever else stands there is put back
pub returns-in_default-state-clause-spares : goal.returns-in_default-state-clause-spares
returns-in_default-state-clause-spares c =
    clients_back c.in-Some.call c.in-Some-take.open c.args.self.now c.take.new.self c.seat-in_default-state.new.self (sym c.take.ensures.taken ∙ c.in-Some-take.is)
    c.take.ensures.places c.seat-in_default-state.ensures.places (c.seat-in_default-state.ensures.others ∙ c.take.ensures.others)

pub returns-in_default-state-clause-go_on : goal.returns-in_default-state-clause-go_on
returns-in_default-state-clause-go_on c =
    let place = c.in-Some.call in
    let one = c.in-Some-take.open in
    let old = c.args.self.now in
    let mid = c.take.new.self in
    let new = c.seat-in_default-state.new.self in
    taken_goes_on place one old mid new (sym c.take.ensures.taken ∙ c.in-Some-take.is) (taken_held place old mid c.take.ensures.places) c.take.ensures.others
    (with_put place one mid new (put_holds (λ held. Continues one held) place one mid new c.seat-in_default-state.ensures.places (continues_same one)) c.seat-in_default-state.ensures.others)
