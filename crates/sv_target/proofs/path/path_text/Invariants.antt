use Rattle.sv_target.proofs.Prelude.{◌≡◌, map, take, cow_str_bytes}
use Rattle.std.specs.Prelude.{string_bytes}
use Rattle.sv_target.specs.Path as spec
use Rattle.sv_target.proofs.path.path_text.Given as goal

abbrev pub invariant-loop-segment : goal.invariant-loop-segment
invariant-loop-segment l = string_bytes l.text ≡ spec.path_text (map cow_str_bytes (take l.segment-index l.kept))
