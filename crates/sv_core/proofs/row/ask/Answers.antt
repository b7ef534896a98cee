use Rattle.sv_core.proofs.Prelude.{rules}
use Rattle.sv_core.proofs.row.ask.Goals as goal

pub returns-in-Some-clause-decision : goal.returns-in-Some-clause-decision
returns-in-Some-clause-decision g c = search rules

pub returns-in-None-clause-decision : goal.returns-in-None-clause-decision
returns-in-None-clause-decision g c = search rules
