use Rattle.sv_model.proofs.RangeLemmas.{ranged}
use Rattle.sv_model.proofs.laws.ranged.Goals as goal

pub returns : goal.returns
returns c m limits names set is n r moment input within = ranged set is n r m limits names moment input within
