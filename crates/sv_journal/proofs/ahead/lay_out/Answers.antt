use Rattle.std.proofs.Common.{replicate}
use Rattle.sv_journal.proofs.Laying.{reached1, reached2, laid}
use Rattle.sv_journal.proofs.ahead.lay_out.Goals as goal

pub returns-in_err-longer-clause-any_moment : goal.returns-in_err-longer-clause-any_moment
returns-in_err-longer-clause-any_moment g c = λ told only.
    let d = g.D.Disk in
    (reached1 d.tells d.seen d.may_leave d.moment d.left_since g.met.D.Disk.only_now c.args.disk.now told c.args.len (c.requires.sized told) 65536 c.extend.new.self only c.extend.ensures.stop).so_far

pub returns-in_err-sync-clause-any_moment : goal.returns-in_err-sync-clause-any_moment
returns-in_err-sync-clause-any_moment g c = λ told only.
    let d = g.D.Disk in
    (reached2 d.tells d.seen d.may_leave d.moment d.left_since g.met.D.Disk.only_now c.args.disk.now told c.args.len (c.requires.sized told) 65536 c.extend.new.self c.sync.new.self only c.extend.ensures.stop c.sync.ensures.stop).so_far

pub returns-clause-any_moment : goal.returns-clause-any_moment
returns-clause-any_moment g c = λ told only.
    let d = g.D.Disk in
    (reached2 d.tells d.seen d.may_leave d.moment d.left_since g.met.D.Disk.only_now c.args.disk.now told c.args.len (c.requires.sized told) 65536 c.extend.new.self c.sync.new.self only c.extend.ensures.stop c.sync.ensures.stop).so_far

pub returns-clause-ready : goal.returns-clause-ready
returns-clause-ready g c = λ told.
    let d = g.D.Disk in
    laid d.tells d.seen d.may_leave d.moment d.left_since g.met.D.Disk.only_now c.args.disk.now told c.args.len (c.requires.sized told) (replicate 65536 0) c.in_ok-longer.longer c.extend.new.self c.sync.new.self
    c.in_ok-longer.ensures.bounds.0 c.in_ok-longer.ensures.bounds.1 (c.in_ok-longer.ensures.extended told) c.sync.ensures.seen (c.in_ok-sync.ensures.durable (c.extend.ensures.stop.tells_after told))
