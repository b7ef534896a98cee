use Rattle.sv_core.proofs.Prelude.{rules}
use Rattle.sv_core.proofs.places.mark.Goals as goal

pub returns-else-is_there-clause-items : goal.returns-else-is_there-clause-items
returns-else-is_there-clause-items c = search rules
