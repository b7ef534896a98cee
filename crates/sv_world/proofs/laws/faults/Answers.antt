use Rattle.sv_world.proofs.FaultLemmas.{faulty}
use Rattle.sv_world.proofs.laws.faults.Goals as goal

pub returns : goal.returns
returns k m c w e = faulty m c w e
