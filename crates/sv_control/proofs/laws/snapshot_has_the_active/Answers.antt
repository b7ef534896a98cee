use Rattle.sv_control.proofs.MovingLemmas.{snapshot_active}
use Rattle.sv_control.proofs.laws.snapshot_has_the_active.Goals as goal

pub returns : goal.returns
returns c = snapshot_active
