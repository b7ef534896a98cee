use Rattle.sv_world.proofs.Prelude.{rules}
use Rattle.sv_world.proofs.slot.Slot.perform.Goals as goal

pub returns-in-Silent-clause-done : goal.returns-in-Silent-clause-done
returns-in-Silent-clause-done g c = search rules
