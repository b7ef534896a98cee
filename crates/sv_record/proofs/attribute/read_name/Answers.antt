use Rattle.std.proofs.Common.{rules}
use Rattle.sv_record.proofs.attribute.read_name.Goals as goal

pub returns-in-Some-clause-read : goal.returns-in-Some-clause-read
unfolding Rattle.sv_record.specs.Session.name
returns-in-Some-clause-read c = search rules

pub returns-in-Some-clause-rises : goal.returns-in-Some-clause-rises
returns-in-Some-clause-rises c = search rules
