use Rattle.sv_host.proofs.AskedLemmas.{gathers_on}
use Rattle.sv_host.proofs.gathering.gather.Goals as goal

pub returns-clause-clients : goal.returns-clause-clients
returns-clause-clients c = gathers_on _ _ _ _ _ _ c.gather_reported.ensures.gathered.before c.gather_reported.ensures.clients c.gather_door.ensures.clients
