use Rattle.sv_host.proofs.Prelude.{sym, subst, Setting, state_of, second_of, IsInTime, steady_of}
use Rattle.sv_host.proofs.NudgeLemmas.{in_time}
use Rattle.sv_host.proofs.ServingLemmas.{goes_by}
use Rattle.sv_host.proofs.nudges.tick_all.Goals as goal

pub returns-in-Ok-clause-in_time : goal.returns-in-Ok-clause-in_time
returns-in-Ok-clause-in_time g c other some done =
    let e = g.E.Engine in
    let told = c.in-Ok.ensures.told (λ refused. done (c.of.ensures.1 refused)) in
    let new = c.tell.new.node in
    subst (λ (set : Setting). IsInTime set (second_of c.args.ticks.nudge (steady_of c.args.server.now.time)) (state_of new)) (sym (goes_by c.in-Ok.is c.tell.ensures.served).setting)
    (in_time e.meaning e.heard g.D.Disk.failed (steady_of c.args.server.now.time) c.args.ticks.count c.args.node.now new c.args.group.now c.in-Ok.taken c.args.ticks.nudge other some told
    (λ refused. done (c.of.ensures.1 refused)))
