use Rattle.std.proofs.Common.{◌≡◌, ◌++◌, take}
use Rattle.std.specs.List.{flat_map}
use Rattle.sv_web.specs.Html.{escaped_byte}
use Rattle.sv_web.proofs.html.add_escaped.Given as goal

-- the references of the bytes so far
abbrev pub invariant-loop-byte : goal.invariant-loop-byte
invariant-loop-byte l = l.bytes.items ≡ l.fn.bytes.items ++ flat_map escaped_byte (take l.byte-index l.text)
