use Rattle.sv_node.proofs.MomentLemmas.{compaction_runs}
use Rattle.sv_host.proofs.HavingLemmas.{same_waiting}
use Rattle.sv_host.proofs.LifeLemmas.{compaction_done, compaction_refused}
use Rattle.sv_host.proofs.StopLemmas.{compaction_stops}
use Rattle.sv_host.proofs.compaction.write_anew.Goals as goal

pub returns-in-Ok-clause-gone : goal.returns-in-Ok-clause-gone
returns-in-Ok-clause-gone g c = λ low.
    let e = g.E.Engine in
    let d = g.D.Disk in
    compaction_done e.meaning e.heard d.tells d.seen d.may_leave d.moment d.left_since d.failed low c.args.node.now c.compact.new.self c.requires.live _ c.in-Ok.ensures.compaction

pub returns-in-Err-clause-gone : goal.returns-in-Err-clause-gone
returns-in-Err-clause-gone g c = λ low.
    let e = g.E.Engine in
    let d = g.D.Disk in
    compaction_refused e.meaning e.heard d.tells d.seen d.may_leave d.moment d.left_since d.failed low c.args.node.now c.compact.new.self c.requires.live c.in-Err.fault c.not_compacted.result
    c.in-Err.ensures.compaction c.not_compacted.ensures.goes_on

pub returns-in-Err-clause-stops : goal.returns-in-Err-clause-stops
returns-in-Err-clause-stops g c =
    let e = g.E.Engine in
    let d = g.D.Disk in
    compaction_stops e.meaning e.heard d.tells d.seen d.may_leave d.moment d.left_since d.failed c.args.node.now c.compact.new.self c.requires.live c.in-Err.fault c.not_compacted.result
    c.in-Err.ensures.compaction c.not_compacted.ensures.stops

pub returns-in-Ok-clause-runs : goal.returns-in-Ok-clause-runs
returns-in-Ok-clause-runs g c = λ low.
    let e = g.E.Engine in
    let d = g.D.Disk in
    compaction_runs e.meaning e.heard d.tells d.seen d.may_leave d.moment d.left_since d.failed c.args.node.now c.compact.new.self c.requires.live (c.requires.valid.stored c.requires.live) _ low
    c.in-Ok.ensures.compaction

pub returns-in-Err-clause-runs : goal.returns-in-Err-clause-runs
returns-in-Err-clause-runs g c = λ low.
    let e = g.E.Engine in
    let d = g.D.Disk in
    compaction_runs e.meaning e.heard d.tells d.seen d.may_leave d.moment d.left_since d.failed c.args.node.now c.compact.new.self c.requires.live (c.requires.valid.stored c.requires.live) _ low
    c.in-Err.ensures.compaction

pub returns-in-Ok-clause-waiting : goal.returns-in-Ok-clause-waiting
returns-in-Ok-clause-waiting g c = same_waiting c.in-Ok.ensures.compaction

pub returns-in-Err-clause-waiting : goal.returns-in-Err-clause-waiting
returns-in-Err-clause-waiting g c = same_waiting c.in-Err.ensures.compaction
