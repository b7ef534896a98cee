use Rattle.sv_net.proofs.Prelude.{[], ◌∷◌, refl, came_of, went_of, Obeys, held_at, Says, Close}
use Rattle.sv_net.proofs.ContinueLemmas.{all_but_then, but_put, obeys_holding, obeys_saying, still_none}
use Rattle.sv_net.proofs.PlaceLemmas.{holds_more, put_holds}
use Rattle.sv_net.proofs.SpareLemmas.{clients_then}
use Rattle.sv_net.proofs.connections.Connections.tell_in_time.Goals as goal

-- it is held until the packet has left
pub returns-then-hold-clause-told : goal.returns-then-hold-clause-told
returns-then-hold-clause-told c = λ none ordering.
    let place = c.args.place in
    let one = c.args.open in
    let mid = c.hold.new.self in
    all_but_then place (Obeys c.args.byte one) c.args.self.now mid c.begin.new.self c.hold.ensures.go_on
    (but_put place (Obeys c.args.byte one) mid c.begin.new.self
    (put_holds (Obeys c.args.byte one) place _ mid c.begin.new.self c.begin.ensures.places
    (obeys_holding c.args.byte one _ c.into_parts-socket.result.0 ordering c.into_parts-socket.ensures.socket refl refl)) c.begin.ensures.others)

-- nobody stands where a byte is told
pub returns-clause-spares : goal.returns-clause-spares
returns-clause-spares c = λ none. clients_then c.args.place c.args.self.now c.hold.new.self c.tell.new.self none c.hold.ensures.spares c.tell.ensures.others

pub returns-clause-told : goal.returns-clause-told
returns-clause-told c = λ none ordering.
    let place = c.args.place in
    let one = c.args.open in
    let byte = c.args.byte in
    let old = c.args.self.now in
    let mid = c.hold.new.self in
    let socket = c.into_parts-socket.result.0 in
    all_but_then place (Obeys byte one) old mid c.tell.new.self c.hold.ensures.go_on
    (but_put place (Obeys byte one) mid c.tell.new.self
    (holds_more (Says (byte ∷ []) Close (went_of socket) (came_of socket)) (Obeys byte one)
    (λ held says. obeys_saying byte one held socket ordering c.into_parts-socket.ensures.socket says) _ (c.tell.ensures.said (still_none (held_at old place) (held_at mid place) none (c.hold.ensures.go_on place)))) c.tell.ensures.others)
