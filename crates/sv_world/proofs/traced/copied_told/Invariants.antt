use Rattle.sv_world.proofs.Prelude.{◌≡◌}
use Rattle.std.proofs.Common.{take}
use Rattle.sv_world.proofs.traced.copied_told.Given as goal

abbrev pub invariant-loop-event : goal.invariant-loop-event
invariant-loop-event l = l.copy.items ≡ take l.event-index l.told
