use Rattle.sv_world.proofs.Prelude.{rules}
use Rattle.sv_world.proofs.core_torn.torn_rest.Goals as goal

pub returns-clause-view : goal.returns-clause-view
returns-clause-view g c = search rules
