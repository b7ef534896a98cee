use Rattle.sv_world.proofs.Rolled.{in_turn}
use Rattle.sv_world.proofs.laws.in_turn.Goals as goal

pub returns : goal.returns
returns k m touches c es turns = in_turn m c touches es turns
