use Rattle.std.proofs.Common.{◌≡◌, ◌++◌, drop}
use Rattle.sv_control.specs.Losing.{moved_from}
use Rattle.sv_control.proofs.losing.moved_contexts.Given as goal

abbrev pub invariant-loop-number : goal.invariant-loop-number
invariant-loop-number l = l.moved.items ++ moved_from l.number (drop l.number l.old) l.new ≡ moved_from 0 l.old l.new
