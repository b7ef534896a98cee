use Rattle.sv_dispatch.proofs.Prelude.{ap, arith, ◌≤◌, ◌<◌, length, IfOk-weaker, need, Enter}
use Rattle.sv_dispatch.specs.declared.mode.Mode.TheVariants.{Serve}
use Rattle.sv_dispatch.proofs.StepLemmas.{keeps, too_deep, pushes_less, pushes_over, pushes_running_over, pops, pops_running}
use Rattle.sv_dispatch.proofs.stack.step.Goals as goal

pub returns-then-len-ge-DEPTH-clause-whole : goal.returns-then-len-ge-DEPTH-clause-whole
returns-then-len-ge-DEPTH-clause-whole g c = too_deep _ _ _ c.in-Enter.ask _ _ c.in-Enter.is (omega (arith, c.len.ensures, c.args.frames.now.ok.0))

pub returns-in-Enter-clause-whole : goal.returns-in-Enter-clause-whole
returns-in-Enter-clause-whole g c =
    let h : length c.args.frames.now.items < 16 = omega (arith, c.len.ensures, c.args.frames.now.ok.0) in
    IfOk-weaker c.enter.result _ _ (λ mode k. keeps _ _ _ (Enter c.in-Enter.ask) mode _ _ _ _ h c.in-Enter.is k) c.enter.ensures.current

pub returns-in-Serve-clause-whole : goal.returns-in-Serve-clause-whole
returns-in-Serve-clause-whole g c =
    let h : length c.args.frames.now.items < 16 = omega (arith, ap need c.in-Serve.is, c.requires.running.room) in
    IfOk-weaker c.serve.result _ _ (λ mode k. keeps _ _ _ (Serve c.in-Serve.held) mode _ _ _ _ h c.in-Serve.is k) c.serve.ensures.current

pub returns-in-Nest-clause-whole : goal.returns-in-Nest-clause-whole
returns-in-Nest-clause-whole g c =
    let h : length c.args.frames.now.items < 16 = omega (arith, ap need c.in-Nest.is, c.requires.running.room) in
    pushes_over c.nest.result _ _ _ _ _ _ _ _ c.in-Nest.is c.nest.ensures.frames c.nest.ensures.mode h

pub returns-clause-whole : goal.returns-clause-whole
returns-clause-whole g c =
    let h : length c.args.frames.now.items ≤ 16 = omega (arith, c.requires.running.room) in
    IfOk-weaker c.leave.result _ _ (λ mode k. pops _ _ _ _ _ mode _ _ _ _ c.in-Leave.is c.in-Some.ensures.items h k) c.leave.ensures.current

pub returns-in-Nest-clause-running : goal.returns-in-Nest-clause-running
returns-in-Nest-clause-running g c = pushes_running_over c.nest.result _ _ _ _ _ _ c.in-Nest.is c.nest.ensures.frames c.nest.ensures.mode c.requires.running

pub returns-in-Nest-clause-less : goal.returns-in-Nest-clause-less
returns-in-Nest-clause-less g c = pushes_less c.nest.result _ _ _ _ _ _ c.in-Nest.is c.nest.ensures.frames c.nest.ensures.mode

pub returns-clause-running : goal.returns-clause-running
returns-clause-running g c = pops_running c.leave.result _ _ _ _ _ c.in-Some.ensures.items c.requires.running c.leave.ensures.held c.leave.ensures.need
