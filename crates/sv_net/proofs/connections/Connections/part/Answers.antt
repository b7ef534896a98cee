use Rattle.sv_net.proofs.Prelude.{refl}
use Rattle.sv_net.proofs.ContinueLemmas.{all_places, all_stood, continues_parting, with_all, with_kept, with_more, with_then}
use Rattle.sv_net.specs.declared.state.State.TheVariants.{Parting}
use Rattle.sv_net.proofs.connections.Connections.part.Goals as goal

-- it has closed too
pub returns-in_default : goal.returns-in_default
returns-in_default c = λ is. with_all c.args.place c.args.open c.args.self.now c.leave.new.self (all_places c.args.self.now c.leave.new.self c.leave.ensures.places)

pub returns-then-has_more : goal.returns-then-has_more
returns-then-has_more c = λ is.
    let place = c.args.place in
    let one = c.args.open in
    let left = c.in-Some.left in
    let was = record one { socket = c.read_pieces.new.socket; state = Parting left } in
    let old = c.args.self.now in
    with_then place one old c.keep.new.self c.call_again.new.self
    (with_kept place one was old c.keep.new.self (continues_parting one was c.args.bytes left is refl c.read_pieces.ensures) c.keep.ensures.kept c.keep.ensures.others)
    (all_stood place c.keep.new.self c.call_again.new.self c.call_again.ensures.stood c.call_again.ensures.others)

pub returns-else-has_more : goal.returns-else-has_more
returns-else-has_more c = λ is.
    let one = c.args.open in
    let left = c.in-Some.left in
    let was = record one { socket = c.read_pieces.new.socket; state = Parting left } in
    with_more c.args.place one was c.args.self.now c.keep_in_time.new.self (continues_parting one was c.args.bytes left is refl c.read_pieces.ensures) c.keep_in_time.ensures
