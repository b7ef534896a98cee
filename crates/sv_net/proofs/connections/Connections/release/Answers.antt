use Rattle.sv_net.proofs.Prelude.{[], ◌∷◌, sym, ◌∙◌, came_of, went_of, Continues, Says, Close}
use Rattle.sv_net.proofs.ContinueLemmas.{all_but, continues_same, continues_telling, taken_goes_on, with_kept, with_put}
use Rattle.sv_net.proofs.PlaceLemmas.{holds_more, taken_held}
use Rattle.sv_net.proofs.connections.Connections.release.Goals as goal

-- nobody stands there
pub returns-in_default-take : goal.returns-in_default-take
returns-in_default-take c =
    all_but c.in-Some.place c.args.self.now c.take.new.self (taken_held c.in-Some.place c.args.self.now c.take.new.self c.take.ensures.places) c.take.ensures.others

-- the byte is told
pub returns-in-Holding : goal.returns-in-Holding
returns-in-Holding c =
    let place = c.in-Some.place in
    let one = c.in-Some-take.open in
    let old = c.args.self.now in
    let mid = c.take.new.self in
    let socket = c.into_parts-socket.result.0 in
    let none = taken_held place old mid c.take.ensures.places in
    taken_goes_on place one old mid c.tell.new.self (sym c.take.ensures.taken ∙ c.in-Some-take.is) none c.take.ensures.others
    (with_put place one mid c.tell.new.self
    (holds_more (Says (c.in-Holding.byte ∷ []) Close (went_of socket) (came_of socket)) (Continues one)
    (λ held says. continues_telling one held socket c.in-Holding.byte c.in-Holding.is c.into_parts-socket.ensures.socket says) _ (c.tell.ensures.said none)) c.tell.ensures.others)

-- whoever else stands there is put back
pub returns-in_default-state : goal.returns-in_default-state
returns-in_default-state c =
    let place = c.in-Some.place in
    let one = c.in-Some-take.open in
    let old = c.args.self.now in
    let mid = c.take.new.self in
    taken_goes_on place one old mid c.keep.new.self (sym c.take.ensures.taken ∙ c.in-Some-take.is) (taken_held place old mid c.take.ensures.places) c.take.ensures.others
    (with_kept place one one mid c.keep.new.self (continues_same one) c.keep.ensures.kept c.keep.ensures.others)
