use Rattle.sv_core.proofs.Prelude.{rules}
use Rattle.sv_core.proofs.row.no.Goals as goal

pub returns-clause-decision : goal.returns-clause-decision
returns-clause-decision g c = search rules
