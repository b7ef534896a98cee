use Rattle.sv_net.proofs.Prelude.{Continues}
use Rattle.sv_net.proofs.ContinueLemmas.{all_stood, continues_same, with_put, with_then}
use Rattle.sv_net.proofs.PlaceLemmas.{put_holds}
use Rattle.sv_net.proofs.connections.Connections.put_off.Goals as goal

pub returns : goal.returns
returns c =
    let place = c.args.place in
    let one = c.args.open in
    let old = c.args.self.now in
    let mid = c.seat.new.self in
    with_then place one old mid c.put_down.new.self
    (with_put place one old mid (put_holds (λ held. Continues one held) place one old mid c.seat.ensures.places (continues_same one)) c.seat.ensures.others)
    (all_stood place mid c.put_down.new.self c.put_down.ensures.stood c.put_down.ensures.others)
