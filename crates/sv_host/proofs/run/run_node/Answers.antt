use Rattle.sv_host.proofs.RunningLemmas.{has_run_if}
use Rattle.sv_host.proofs.run.run_node.Goals as goal

pub returns-in-Ok : goal.returns-in-Ok
returns-in-Ok g c = record {
  ran =
      has_run_if g.E.Engine.meaning g.E.Engine.heard _ _ _ c.args.place c.args.persistence c.in_ok-host.host c.args.engine c.in-Ok.ended.engine c.in_ok-host.a c.in_ok-host.b
      c.in-Ok.ended.a c.in-Ok.ended.b c.in_ok-host.ensures c.in-Ok.ensures.life c.how_ended.result;
}
