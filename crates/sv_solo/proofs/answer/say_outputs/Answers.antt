use Rattle.std.proofs.Common.{rules}
use Rattle.sv_solo.proofs.answer.say_outputs.Goals as goal

pub returns-in-None-clause-follows : goal.returns-in-None-clause-follows
returns-in-None-clause-follows g c = search rules

pub returns-in-Some-clause-follows : goal.returns-in-Some-clause-follows
returns-in-Some-clause-follows g c = search rules
