use Rattle.sv_net.proofs.Prelude.{ap, sym, ◌∙◌, Continues, Obeys, held_at, waits}
use Rattle.sv_net.proofs.ContinueLemmas.{all_but, but_all, but_more, continues_same, taken_but, taken_goes_on, with_put}
use Rattle.sv_net.proofs.PlaceLemmas.{put_holds, taken_held}
use Rattle.sv_net.proofs.SpareLemmas.{clients_after, clients_back}
use Rattle.sv_net.specs.Exchange.{ObeysThere}
use Rattle.sv_net.proofs.connections.Connections.obeyed.Goals as goal

-- nobody stands there
pub returns-in_default-clause-told : goal.returns-in_default-clause-told
returns-in_default-clause-told c =
    but_all c.args.place _ c.args.self.now c.take.new.self
    (all_but c.args.place c.args.self.now c.take.new.self (taken_held c.args.place c.args.self.now c.take.new.self c.take.ensures.places) c.take.ensures.others)

-- whoever gave the command
pub returns-in-Ordering-clause-told : goal.returns-in-Ordering-clause-told
returns-in-Ordering-clause-told c =
    let place = c.args.place in
    let byte = c.args.byte in
    let old = c.args.self.now in
    let mid = c.take.new.self in
    let one = c.in-Some.open in
    let none = taken_held place old mid c.take.ensures.places in
    but_more place (Obeys byte one) (ObeysThere byte (held_at old place)) old c.tell_in_time.new.self
    (λ held obeys. (one, sym c.take.ensures.taken ∙ c.in-Some.is, obeys))
    (taken_but place (Obeys byte one) old mid c.tell_in_time.new.self none c.take.ensures.others (c.tell_in_time.ensures.told none c.in-Ordering.is))

pub returns-in-Ordering-clause-spares : goal.returns-in-Ordering-clause-spares
returns-in-Ordering-clause-spares c =
    let none = taken_held c.args.place c.args.self.now c.take.new.self c.take.ensures.places in
    clients_after c.args.place c.in-Some.open c.args.self.now c.take.new.self c.tell_in_time.new.self (sym c.take.ensures.taken ∙ c.in-Some.is) (ap waits c.in-Ordering.is) c.take.ensures.others
    (c.tell_in_time.ensures.spares none)

-- whoever else stands there is put back
pub returns-in_default-state-clause-spares : goal.returns-in_default-state-clause-spares
returns-in_default-state-clause-spares c =
    clients_back c.args.place c.in-Some.open c.args.self.now c.take.new.self c.seat.new.self (sym c.take.ensures.taken ∙ c.in-Some.is) c.take.ensures.places c.seat.ensures.places
    (c.seat.ensures.others ∙ c.take.ensures.others)

pub returns-in_default-state-clause-told : goal.returns-in_default-state-clause-told
returns-in_default-state-clause-told c =
    let place = c.args.place in
    let one = c.in-Some.open in
    let old = c.args.self.now in
    let mid = c.take.new.self in
    but_all place _ old c.seat.new.self
    (taken_goes_on place one old mid c.seat.new.self (sym c.take.ensures.taken ∙ c.in-Some.is) (taken_held place old mid c.take.ensures.places) c.take.ensures.others
    (with_put place one mid c.seat.new.self (put_holds (λ held. Continues one held) place one mid c.seat.new.self c.seat.ensures.places (continues_same one)) c.seat.ensures.others))
