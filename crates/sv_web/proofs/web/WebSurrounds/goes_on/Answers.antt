use Rattle.sv_web.proofs.WorkLemmas.{surrounding_keeps}
use Rattle.sv_web.proofs.web.WebSurrounds.goes_on.Goals as goal

pub returns : goal.returns
returns g c = record { keeps = surrounding_keeps (g.F.HttpFilter.work c.args.self.now.object) }
