use Rattle.sv_net.proofs.ContinueLemmas.{all_but, all_then}
use Rattle.sv_net.proofs.PlaceLemmas.{taken_held}
use Rattle.sv_net.proofs.connections.Connections.end.Goals as goal

pub returns-in-Some : goal.returns-in-Some
returns-in-Some c =
    let old = c.args.self.now in
    let mid = c.take.new.self in
    all_then old mid c.end_taken.new.self (all_but c.args.place old mid (taken_held c.args.place old mid c.take.ensures.places) c.take.ensures.others) c.end_taken.ensures

-- nobody stands there
pub returns-in_default : goal.returns-in_default
returns-in_default c =
    all_but c.args.place c.args.self.now c.take.new.self (taken_held c.args.place c.args.self.now c.take.new.self c.take.ensures.places) c.take.ensures.others
