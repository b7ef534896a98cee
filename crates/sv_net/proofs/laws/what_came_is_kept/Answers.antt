use Rattle.sv_net.proofs.LifeLemmas.{keeps_bytes}
use Rattle.sv_net.proofs.laws.what_came_is_kept.Goals as goal

pub returns : goal.returns
returns c = keeps_bytes
