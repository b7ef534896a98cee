use Rattle.sv_net.proofs.ContinueLemmas.{all_but, all_places, all_then}
use Rattle.sv_net.proofs.PlaceLemmas.{taken_held}
use Rattle.sv_net.proofs.connections.Connections.close_broken.Goals as goal

pub returns-then-is_heard : goal.returns-then-is_heard
returns-then-is_heard c =
    let old = c.args.self.now in
    let mid = c.take-closed.new.self in
    all_then old mid c.leave.new.self (all_but c.args.place old mid (taken_held c.args.place old mid c.take-closed.ensures.places) c.take-closed.ensures.others)
    (all_places mid c.leave.new.self c.leave.ensures.places)
