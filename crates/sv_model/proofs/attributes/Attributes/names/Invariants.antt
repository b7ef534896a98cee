use Rattle.std.proofs.Common.{◌≡◌, ◌++◌}
use Rattle.sv_model.specs.Attributes.{names_of}
use Rattle.sv_model.proofs.attributes.Attributes.names.Given as goal

abbrev pub invariant-loop-name : goal.invariant-loop-name
invariant-loop-name l = l.names ++ names_of l.name-iterator ≡ names_of l.self
