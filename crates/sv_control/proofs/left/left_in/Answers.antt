use Rattle.std.proofs.Common.{rules, ◌≡◌}
use Rattle.sv_control.proofs.left.left_in.Goals as goal

pub returns : goal.returns
returns c = search rules
