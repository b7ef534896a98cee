use Rattle.std.proofs.Common.{◌≡◌, take}
use Rattle.sv_control.specs.Left.{active_in}
use Rattle.sv_control.proofs.left.active_keys.Given as goal

abbrev pub invariant-loop-entry : goal.invariant-loop-entry
invariant-loop-entry l = l.keys.items ≡ active_in (take l.entry-index l.kept)
