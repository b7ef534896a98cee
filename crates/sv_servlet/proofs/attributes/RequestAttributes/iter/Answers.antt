use Rattle.sv_servlet.proofs.AttributesLemmas.{rises}
use Rattle.sv_servlet.proofs.attributes.RequestAttributes.iter.Goals as goal

pub returns-clause-rising : goal.returns-clause-rising
returns-clause-rising c = rises c.self.inside.by_name.entries c.args.self.now c.self.view_is c.iter.ensures.ordered
