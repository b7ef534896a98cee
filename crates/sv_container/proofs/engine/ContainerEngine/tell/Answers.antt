use Rattle.sv_container.proofs.Prelude.{◌∙◌, deployed}
use Rattle.sv_container.proofs.EngineLemmas.{heard_same}
use Rattle.sv_container.proofs.engine.ContainerEngine.tell.Goals as goal

pub returns-clause-heard : goal.returns-clause-heard
returns-clause-heard g c = c.tell_all.ensures.noted ∙ heard_same (deployed g.S.Servlet g.F.Filter g.L.Listener.hears c.args.self.now) _ _
