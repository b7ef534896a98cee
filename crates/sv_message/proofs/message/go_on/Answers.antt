use Rattle.sv_message.proofs.Prelude.{rules}
use Rattle.sv_message.proofs.message.go_on.Goals as goal

pub returns-in-Ok-true-clause-finds : goal.returns-in-Ok-true-clause-finds
returns-in-Ok-true-clause-finds c = search rules

pub returns-in-Ok-true-clause-resumes : goal.returns-in-Ok-true-clause-resumes
returns-in-Ok-true-clause-resumes c = search rules
