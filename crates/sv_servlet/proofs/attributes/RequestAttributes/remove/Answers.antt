use Rattle.sv_servlet.proofs.AttributesLemmas.{removed}
use Rattle.sv_servlet.proofs.attributes.RequestAttributes.remove.Goals as goal

pub returns : goal.returns
returns c = removed c.self.inside.by_name.entries c.remove.new.self.entries c.args.self.now c.args.name.now c.self.view_is c.remove.ensures.entries
