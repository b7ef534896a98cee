use Rattle.memchr.proofs.lemmas.ValueLemmas.{FindsNeedle-value}
use Rattle.sv_web.proofs.cutting.place_of.Goals as goal

pub returns-clause-place : goal.returns-clause-place
returns-clause-place c = FindsNeedle-value c.args.text.now c.args.sought.now c.find.result c.find.ensures
