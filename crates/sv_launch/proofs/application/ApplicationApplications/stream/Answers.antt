use Rattle.sv_launch.proofs.StartedLemmas.{meant}
use Rattle.sv_launch.proofs.application.ApplicationApplications.stream.Goals as goal

pub returns : goal.returns
returns g c = record {
  streamed = record {
    engine = c.in_ok-container.container;
    is = meant _ _ _ _ _ _ c.args.deployment.contexts.items _ c.in_ok-container.ensures.launched;
    served = c.in_ok-once.ensures.served;
  };
}
