use Rattle.sv_host.proofs.Prelude.{sym, subst, IsLife}
use Rattle.sv_node.proofs.HistoryLemmas.{lived}
use Rattle.sv_node.proofs.MomentLemmas.{lives}
use Rattle.sv_node.specs.Moments.{LivesWithoutLoss}
use Rattle.sv_host.specs.Host.{setting_of}
use Rattle.sv_host.proofs.LifeLemmas.{tell_by_names}
use Rattle.sv_host.proofs.host.Host.run.Goals as goal

pub returns-in-Ok-clause-life : goal.returns-in-Ok-clause-life
returns-in-Ok-clause-life g c =
    let e = g.E.Engine in
    let d = g.D.Disk in
    let set = setting_of c.args.self in
    let node = c.in-Ok.node in
    let o = c.in-Ok.ensures in
    let l = c.live.ensures.lived in
    subst (λ r. IsLife e.meaning e.heard d.tells d.seen d.may_leave set c.args.engine c.args.a c.args.b r.0 r.1 r.2) (sym l.parts)
    (lived e.meaning e.heard d.tells d.may_leave d.moment d.left_since d.seen set c.args.engine c.args.a c.args.b node l.last o.started o.restarted
    (λ ta tb. tell_by_names d.tells node.journal.on_a node.journal.current node.journal.other (o.tells.0.tells_after ta) (o.tells.1.tells_after tb)) l.ended l.valid.stored)

pub returns-in-Ok-clause-any_moment : goal.returns-in-Ok-clause-any_moment
returns-in-Ok-clause-any_moment g c ta tb before restores =
    let e = g.E.Engine in
    let d = g.D.Disk in
    let set = setting_of c.args.self in
    let node = c.in-Ok.node in
    let o = c.in-Ok.ensures in
    let l = c.live.ensures.lived in
    subst (λ r. LivesWithoutLoss d.seen d.may_leave d.moment d.left_since (e.meaning c.args.engine) set before c.args.a c.args.b r.1 r.2) (sym l.parts)
    (lives e.meaning e.heard d.tells d.seen d.may_leave d.moment d.left_since set c.args.engine c.args.a c.args.b node l.last o.started o.restarted
    (λ ta tb. tell_by_names d.tells node.journal.on_a node.journal.current node.journal.other (o.tells.0.tells_after ta) (o.tells.1.tells_after tb)) o.any_moment l.runs ta tb before restores)
