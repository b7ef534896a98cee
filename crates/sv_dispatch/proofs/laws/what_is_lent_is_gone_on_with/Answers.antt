use Rattle.sv_dispatch.proofs.KeepingLemmas.{keeping}
use Rattle.sv_dispatch.proofs.laws.what_is_lent_is_gone_on_with.Goals as goal

pub returns : goal.returns
returns c = keeping
