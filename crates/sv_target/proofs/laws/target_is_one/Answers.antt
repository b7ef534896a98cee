use Rattle.sv_target.proofs.OriginLemmas.{one_target, read_within}
use Rattle.sv_target.proofs.laws.target_is_one.Goals as goal

pub returns-clause-one : goal.returns-clause-one
returns-clause-one c = one_target

pub returns-clause-within : goal.returns-clause-within
returns-clause-within c = read_within
