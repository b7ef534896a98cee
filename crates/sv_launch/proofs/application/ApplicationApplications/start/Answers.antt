use Rattle.sv_launch.proofs.StartedLemmas.{started_by}
use Rattle.sv_launch.proofs.application.ApplicationApplications.start.Goals as goal

pub returns : goal.returns
returns g c = record {
  started =
      started_by _ _ _ _ _ _ c.args.deployment.contexts.items _ c.in_ok-container.ensures.launched (λ m heard r. g.P.Purpose.serves m heard c.args.purpose r) _ c.serve.result
      c.serve.ensures.served;
}
