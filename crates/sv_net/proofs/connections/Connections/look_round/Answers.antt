use Rattle.sv_net.proofs.ContinueLemmas.{all_then}
use Rattle.sv_net.proofs.connections.Connections.look_round.Goals as goal

pub loop-place-preserved : goal.loop-place-preserved
loop-place-preserved c = all_then c.args.self.now c.loop-place.self c.end_late.new.self c.loop-place.invariant c.end_late.ensures
