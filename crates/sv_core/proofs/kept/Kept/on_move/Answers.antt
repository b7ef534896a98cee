use Rattle.sv_core.proofs.Prelude.{rules}
use Rattle.sv_core.proofs.kept.Kept.on_move.Goals as goal

pub returns-in_ok-outputs-in-Some-Active : goal.returns-in_ok-outputs-in-Some-Active
returns-in_ok-outputs-in-Some-Active c = search rules
