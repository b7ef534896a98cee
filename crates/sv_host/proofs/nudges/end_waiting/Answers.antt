use Rattle.sv_host.proofs.Prelude.{arith, steady_of}
use Rattle.sv_host.proofs.NudgeLemmas.{late_enough}
use Rattle.sv_host.proofs.nudges.end_waiting.Goals as goal

pub returns-in-Refused-clause-in_time : goal.returns-in-Refused-clause-in_time
returns-in-Refused-clause-in_time g c is =
    let late = c.late.ensures.nudge in
    late_enough c.tick_all.result c.late.result.nudge c.args.second (steady_of c.args.server.now.time) c.tick_all.new.node late (c.tick_all.ensures.in_time (λ poke. cc) (omega (arith, c.late.ensures.one)))
