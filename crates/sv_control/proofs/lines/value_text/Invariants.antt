use Rattle.std.proofs.Common.{◌≡◌, take, string_bytes}
use Rattle.sv_control.specs.Lines as spec
use Rattle.sv_control.proofs.lines.value_text.Given as goal

abbrev pub invariant-loop-byte : goal.invariant-loop-byte
invariant-loop-byte l = string_bytes l.text ≡ spec.value_text (take l.byte-index l.value)
