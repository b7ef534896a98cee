use Rattle.sv_host.proofs.Prelude.{arith, not-true}
use Rattle.sv_host.proofs.nudges.tick.Goals as goal

pub returns-in-Ok-clause-in_time : goal.returns-in-Ok-clause-in_time
returns-in-Ok-clause-in_time g c spared new done p i =
    omega (arith, c.begins_second.ensures.never_back, c.in-Ok.ensures.in_time (c.is_refused.ensures (not-true c.is_refused.result done)) p i)
