use Rattle.std.proofs.Common.{◌≡◌, ◌++◌, take}
use Rattle.std.specs.List.{flat_map}
use Rattle.sv_samples.specs.Snoop.{parameter_line}
use Rattle.sv_samples.proofs.snoop.write_params.Given as goal

abbrev pub invariant-loop-param : goal.invariant-loop-param
invariant-loop-param l = l.out.items ≡ l.fn.out.items ++ flat_map parameter_line (take l.param-index l.params)
