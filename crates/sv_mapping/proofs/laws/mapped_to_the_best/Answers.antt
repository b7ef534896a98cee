use Rattle.sv_mapping.proofs.BestLemmas.{mapped_to_best}
use Rattle.sv_mapping.proofs.laws.mapped_to_the_best.Goals as goal

pub returns : goal.returns
returns c = mapped_to_best
