use Rattle.sv_net.proofs.ContinueLemmas.{all_then}
use Rattle.sv_net.proofs.connections.Connections.forgive.Goals as goal

pub loop-place-preserved : goal.loop-place-preserved
loop-place-preserved c = all_then c.args.self.now c.loop-place.self c.forgive_at.new.self c.loop-place.invariant c.forgive_at.ensures
