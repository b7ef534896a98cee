use Rattle.std.proofs.Common.{take}
use Rattle.std.specs.Fmt.{HasWritten, IsPlainFormatter}
use Rattle.std.specs.List.{flat_map}
use Rattle.sv_control.specs.Lines.{attribute_part}
use Rattle.sv_control.proofs.lines.SessionLineDisplay.fmt.Given as goal

abbrev pub invariant-loop-attribute : goal.invariant-loop-attribute
invariant-loop-attribute g l =
    IsPlainFormatter l.initial.f → HasWritten g.W.Write.write_str_gives l.initial.f (flat_map attribute_part (take l.attribute-index l.attribute-items)) l.f
