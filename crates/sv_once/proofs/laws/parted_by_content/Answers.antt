use Rattle.sv_once.proofs.AskedLemmas.{same_ask}
use Rattle.sv_once.proofs.laws.parted_by_content.Goals as goal

pub returns : goal.returns
returns c = same_ask
