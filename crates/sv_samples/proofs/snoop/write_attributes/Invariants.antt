use Rattle.std.proofs.Common.{◌≡◌, ◌++◌}
use Rattle.std.specs.List.{flat_map}
use Rattle.sv_samples.specs.Snoop.{attribute_line}
use Rattle.sv_samples.proofs.snoop.write_attributes.Given as goal

abbrev pub invariant-loop-name : goal.invariant-loop-name
invariant-loop-name l = l.out.items ++ flat_map attribute_line l.name-iterator ≡ l.fn.out.items ++ flat_map attribute_line l.attributes
