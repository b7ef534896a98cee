use Rattle.sv_world.proofs.Unknown.{is_false}
use Rattle.sv_world.proofs.laws.unknown.Goals as goal

pub returns : goal.returns
returns k response s r moment h = is_false response s r moment h
