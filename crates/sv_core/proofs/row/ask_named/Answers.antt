use Rattle.sv_core.proofs.Prelude.{rules}
use Rattle.sv_core.proofs.row.ask_named.Goals as goal

pub returns-then-is_settled-clause-decision : goal.returns-then-is_settled-clause-decision
returns-then-is_settled-clause-decision g c = search rules
