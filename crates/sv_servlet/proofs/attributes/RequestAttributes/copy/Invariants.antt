use Rattle.std.proofs.Common.{◌≡◌, ◌++◌}
use Rattle.sv_servlet.specs.Attributes.{entries_of}
use Rattle.sv_servlet.proofs.attributes.RequestAttributes.copy.Given as goal

abbrev pub invariant-loop-name : goal.invariant-loop-name
invariant-loop-name l = entries_of l.by_name.entries ++ l.name-iterator ≡ l.self
