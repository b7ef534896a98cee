use Rattle.std.proofs.Common.{◌≡◌, map, take}
use Rattle.sv_cluster.specs.Script.{line_data, readings}
use Rattle.sv_cluster.proofs.script.read_lines.Given as goal

abbrev pub invariant-loop-text : goal.invariant-loop-text
invariant-loop-text l = map line_data l.lines.items ≡ readings (map (λ text. text.now) (take l.text-index l.texts))
