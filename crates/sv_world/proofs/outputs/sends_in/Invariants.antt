use Rattle.sv_world.proofs.Prelude.{◌≡◌, sends_in}
use Rattle.std.proofs.Common.{take}
use Rattle.sv_world.proofs.outputs.sends_in.Given as goal

abbrev pub invariant-loop-output : goal.invariant-loop-output
invariant-loop-output l = l.packets.items ≡ sends_in (take l.output-index l.outputs)
