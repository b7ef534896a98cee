use Rattle.sv_node.proofs.RecordLemmas.{not_damaged}
use Rattle.sv_node.proofs.ledger.record_of.Goals as goal

pub returns-in-Err-clause-bad : goal.returns-in-Err-clause-bad
returns-in-Err-clause-bad c = λ damaged r is. not_damaged c.in-Err.fault c.read_fault.result r c.read_fault.ensures damaged (c.in-Err.ensures.only r is)
