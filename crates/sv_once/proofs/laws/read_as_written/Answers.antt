use Rattle.sv_once.proofs.AnswerLemmas.{kept_read}
use Rattle.sv_once.proofs.EntryLemmas.{memory_read}
use Rattle.sv_once.proofs.laws.read_as_written.Goals as goal

pub returns-clause-memory : goal.returns-clause-memory
returns-clause-memory c = memory_read

pub returns-clause-answer : goal.returns-clause-answer
returns-clause-answer c = kept_read
