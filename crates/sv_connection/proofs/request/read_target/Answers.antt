use Rattle.sv_connection.proofs.RequestLemmas.{has_fault}
use Rattle.sv_connection.proofs.request.read_target.Goals as goal

pub returns-clause-target : goal.returns-clause-target
returns-clause-target c = rw (← c.as_str.ensures) c.read.ensures.ok

pub returns-clause-fault : goal.returns-clause-fault
returns-clause-fault c = has_fault c.args.raw.now c.as_str.result.now c.read.result c.as_str.ensures c.read.ensures.connect c.read.ensures.bad
