use Rattle.std.proofs.Common.{arith}
use Rattle.std.proofs.lemmas.Grind.{common_steps}
use Rattle.sv_journal.proofs.snapshot.behind_gate.Goals as goal

pub loop-payload-preserved : goal.loop-payload-preserved
loop-payload-preserved c = grind (arith, common_steps)
