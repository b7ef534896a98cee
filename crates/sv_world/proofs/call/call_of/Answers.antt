use Rattle.sv_world.proofs.Prelude.{rules}
use Rattle.sv_world.proofs.call.call_of.Goals as goal

pub returns : goal.returns
returns c = search rules
