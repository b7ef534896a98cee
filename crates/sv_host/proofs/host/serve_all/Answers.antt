use Rattle.sv_host.proofs.Prelude.{Err, ap, ◌∙◌, ⊤, gone_join, runs_join}
use Rattle.sv_model.specs.NodeState.{Node as State}
use Rattle.sv_host.proofs.host.serve_all.Goals as goal

pub serve_ready-requires-clause-live : goal.serve_ready-requires-clause-live
serve_ready-requires-clause-live g c = (c.in-Ok.ensures.gone 0).live

pub returns-in-Ok-clause-ended : goal.returns-in-Ok-clause-ended
returns-in-Ok-clause-ended g c =
    let e = g.E.Engine in
    let d = g.D.Disk in
    let ended = c.serve_ready.ensures.ended in
    (ended.0, gone_join e.meaning e.heard d.tells d.may_leave d.moment d.left_since 0 0 ended.0 c.args.node.now c.renew.new.node c.serve_ready.new.node (c.in-Ok.ensures.gone 0) {T = ⊤} {F = ⊤} (Err tt) ended.1)

pub returns-in-Err-clause-ended : goal.returns-in-Err-clause-ended
returns-in-Err-clause-ended g c = (0, c.in-Err.ensures.gone 0)

pub returns-in-Ok-clause-runs : goal.returns-in-Ok-clause-runs
returns-in-Ok-clause-runs g c =
    let e = g.E.Engine in
    let d = g.D.Disk in
    runs_join e.meaning e.heard d.tells d.seen d.may_leave d.moment d.left_since 0 0 0 c.args.node.now c.renew.new.node c.serve_ready.new.node (c.in-Ok.ensures.gone 0) (c.renew.ensures.runs 0) c.serve_ready.ensures.runs

pub returns-in-Err-clause-runs : goal.returns-in-Err-clause-runs
returns-in-Err-clause-runs g c = c.renew.ensures.runs 0

pub serve_ready-requires-clause-nobody_waits : goal.serve_ready-requires-clause-nobody_waits
serve_ready-requires-clause-nobody_waits g c = ap (λ (n : State). n.parked) c.in-Ok.ensures.waiting ∙ c.requires.nobody_waits
