use Rattle.std.proofs.Common.{◌≡◌, ◌++◌, map}
use Rattle.sv_control.specs.Lines.{attribute_to_see, seen_attribute}
use Rattle.sv_control.proofs.lines.attribute_lines.Given as goal

abbrev pub invariant-loop-name : goal.invariant-loop-name
invariant-loop-name l = map seen_attribute l.lines.items ++ map (attribute_to_see l.disclosure) l.name-iterator ≡ map (attribute_to_see l.disclosure) l.attributes
