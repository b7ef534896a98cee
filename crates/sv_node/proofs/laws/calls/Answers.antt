use Rattle.sv_node.proofs.BootLemmas.{found}
use Rattle.sv_node.proofs.CallLemmas.{opened, stepped, compacted}
use Rattle.sv_node.proofs.laws.calls.Goals as goal

pub returns-clause-opened : goal.returns-clause-opened
returns-clause-opened g k n engine set d s some is = opened g.E.Engine.meaning g.E.Engine.heard n engine set d s some is

pub returns-clause-stepped : goal.returns-clause-stepped
returns-clause-stepped g k old new at input answer s =
    let e = g.E.Engine in
    let d = g.D.Disk in
    stepped e.meaning e.heard d.failed old new at input d.tells d.seen d.may_leave d.moment d.left_since answer s

pub returns-clause-compacted : goal.returns-clause-compacted
returns-clause-compacted g k old new answer s =
    let e = g.E.Engine in
    let d = g.D.Disk in
    compacted e.meaning e.heard d.failed old new d.tells d.seen d.may_leave d.moment d.left_since answer s

pub returns-clause-found : goal.returns-clause-found
returns-clause-found g k set d a b gives = found set d a b gives
