use Rattle.sv_core.proofs.Prelude.{rules}
use Rattle.sv_core.proofs.serving.serve.Goals as goal

pub returns-in-Some-clause-decision : goal.returns-in-Some-clause-decision
returns-in-Some-clause-decision g c = search rules

pub returns-clause-decision : goal.returns-clause-decision
returns-clause-decision g c = search rules
