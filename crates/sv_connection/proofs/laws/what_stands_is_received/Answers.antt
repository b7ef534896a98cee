use Rattle.sv_connection.proofs.ReceiveLemmas.{meets, holds}
use Rattle.sv_connection.proofs.laws.what_stands_is_received.Goals as goal

pub returns-clause-faults : goal.returns-clause-faults
returns-clause-faults c = meets c.front_is_one_thing.ensures.one_fault c.front_is_one_thing.ensures.undecided

pub returns-clause-none : goal.returns-clause-none
returns-clause-none c = holds c.front_is_one_thing.ensures.undecided
