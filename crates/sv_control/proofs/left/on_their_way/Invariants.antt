use Rattle.std.proofs.Common.{◌≡◌, take}
use Rattle.sv_control.specs.Left.{sent_in}
use Rattle.sv_control.proofs.left.on_their_way.Given as goal

abbrev pub invariant-loop-entry : goal.invariant-loop-entry
invariant-loop-entry l = l.keys.items ≡ sent_in (take l.entry-index l.kept)
