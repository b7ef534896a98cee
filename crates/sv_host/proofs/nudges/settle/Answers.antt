use Rattle.sv_host.proofs.Prelude.{refl, ap, arith, length, steady_of, Quiet, Refused}
use Rattle.sv_host.proofs.NudgeLemmas.{is_busy, not_both, served, settled}
use Rattle.sv_host.proofs.ServingLemmas.{served_none, served_out, served_then, served_well}
use Rattle.sv_host.proofs.nudges.settle.Goals as goal

pub loop-done-init : goal.loop-done-init
loop-done-init g c = record { served = served_none _ c.requires; empty = λ e. e; fewer = λ e. omega (arith, ap length c.parked-most.ensures); some = omega arith; carried = λ first so_far. so_far }

pub returns-in_err-tell-clause-served : goal.returns-in_err-tell-clause-served
returns-in_err-tell-clause-served g c = served_then refl c.loop-done.invariant.served (served_out _ c.in_err-tell.was c.from_residual.ensures.0 c.tell.ensures.served)

pub returns-in-Quiet-clause-served : goal.returns-in-Quiet-clause-served
returns-in-Quiet-clause-served g c = served_then refl c.loop-done.invariant.served (served_well _ c.in_ok-tell.was c.tell.ensures.served)

pub returns-in-Quiet-clause-settled : goal.returns-in-Quiet-clause-settled
returns-in-Quiet-clause-settled g c empty is_true =
    let e = g.E.Engine in
    let l = c.loop-done in
    settled e.meaning e.heard g.D.Disk.failed (steady_of l.server.time) l.count l.node c.tell.new.node l.group c.in_ok-tell.field-0 (l.invariant.empty empty)
    (c.in_ok-tell.ensures.told (λ refused. not_both Quiet Refused c.in_ok-tell.field-0 (λ is. cc) c.in-Quiet.is refused)) l.invariant.some c.in-Quiet.is

pub returns-in-Refused-clause-served : goal.returns-in-Refused-clause-served
returns-in-Refused-clause-served g c = served_then refl c.loop-done.invariant.served (served_well _ c.in_ok-tell.was c.tell.ensures.served)

pub loop-done-preserved : goal.loop-done-preserved
loop-done-preserved g c =
    let e = g.E.Engine in
    let l = c.loop-done in
    let was = l.invariant in
    let taken = c.in_ok-tell.field-0 in
    let busy = is_busy taken c.in-Busy.is in
    record {
      served = served_then refl was.served (served_well _ c.in_ok-tell.was c.tell.ensures.served);
      empty = λ empty. c.in_ok-tell.ensures.emptied;
      fewer = λ empty.
          omega (arith, was.fewer empty, served e.meaning e.heard g.D.Disk.failed (steady_of l.server.time) l.count l.node c.tell.new.node l.group taken (was.empty empty) (c.in_ok-tell.ensures.told busy.1) was.some busy.0 busy.1);
      some = omega arith;
      carried = λ first so_far. c.tell.ensures.carried first (was.carried first so_far);
    }
