use Rattle.sv_servlet.proofs.AttributesLemmas.{inserted}
use Rattle.sv_servlet.proofs.attributes.RequestAttributes.insert.Goals as goal

pub returns-clause-ok : goal.returns-clause-ok
returns-clause-ok c = inserted c.self.inside.by_name.entries c.insert.new.self.entries c.args.self.now c.args.name.now c.in_ok-name.name c.in_ok-value.value c.args.value.now c.self.view_is c.in_ok-name.ensures.ok c.in_ok-value.ensures.ok c.in_ok-insert.ensures.entries
