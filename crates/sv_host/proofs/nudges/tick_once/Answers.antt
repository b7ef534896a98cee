use Rattle.sv_host.proofs.Prelude.{arith, steady_of}
use Rattle.sv_host.proofs.NudgeLemmas.{end_by}
use Rattle.sv_host.proofs.ServingLemmas.{served_then}
use Rattle.sv_host.proofs.nudges.tick_once.Goals as goal

pub returns-clause-served : goal.returns-clause-served
returns-clause-served g c = served_then c.in_ok-ticked.was c.tick_all.ensures.served c.end_waiting.ensures.served

pub returns-clause-in_time : goal.returns-clause-in_time
returns-clause-in_time g c =
    end_by c.in_ok-ticked.ticked c.steady_seconds-second.result (steady_of c.args.server.now.time) c.end_waiting.result c.tick_all.new.node c.end_waiting.new.node c.steady_seconds-second.ensures
    (λ done. c.in_ok-ticked.ensures.in_time (λ is. cc) (omega arith) done) c.end_waiting.ensures.in_time c.end_waiting.ensures.same
