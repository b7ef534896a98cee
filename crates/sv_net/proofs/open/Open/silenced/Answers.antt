use Rattle.sv_net.proofs.Prelude.{refl}
use Rattle.sv_net.proofs.ContinueLemmas.{continues_like}
use Rattle.sv_net.proofs.open.Open.silenced.Goals as goal

pub returns : goal.returns
returns c = continues_like c.args.self _ refl c.silenced.ensures
