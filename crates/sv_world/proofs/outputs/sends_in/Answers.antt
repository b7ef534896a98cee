use Rattle.sv_world.proofs.Prelude.{arith, filter_map-append}
use Rattle.std.proofs.lemmas.Grind.{common_steps}
use Rattle.sv_world.proofs.outputs.sends_in.Goals as goal

pub loop-output-preserved : goal.loop-output-preserved
loop-output-preserved c = grind (arith, common_steps, filter_map-append)
