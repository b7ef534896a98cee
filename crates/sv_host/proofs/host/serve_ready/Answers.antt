use Rattle.sv_host.proofs.Prelude.{inl, arith, goes_nowhere, runs_nowhere}
use Rattle.sv_host.proofs.host.serve_ready.Goals as goal

pub returns-in-Some-clause-ended : goal.returns-in-Some-clause-ended
returns-in-Some-clause-ended g c =
    let e = g.E.Engine in
    let d = g.D.Disk in
    (0, inl (goes_nowhere e.meaning e.heard d.tells d.may_leave d.moment d.left_since 0 0 c.args.node.now (omega arith) c.requires.live))

pub returns-in-Some-clause-runs : goal.returns-in-Some-clause-runs
returns-in-Some-clause-runs g c =
    let e = g.E.Engine in
    let d = g.D.Disk in
    runs_nowhere e.meaning e.heard d.tells d.seen d.may_leave d.moment d.left_since 0 c.args.node.now
