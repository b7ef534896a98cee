use Rattle.sv_world.proofs.ExpiryLemmas.{ticks_end_sessions}
use Rattle.sv_world.proofs.laws.expires.Goals as goal

pub returns : goal.returns
returns k m c w = ticks_end_sessions m c w
