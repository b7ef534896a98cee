use Rattle.sv_message.proofs.BoundLemmas.{bounded}
use Rattle.sv_message.proofs.laws.rest_is_bounded.Goals as goal

pub returns : goal.returns
returns c = bounded
