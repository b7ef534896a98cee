use Rattle.sv_host.proofs.Prelude.{◌≡◌, ◌∙◌, ◌+◌, ℕ, suc, arith, subst, HasNudges, steady_of}
use Rattle.sv_host.proofs.AskedLemmas.{gathers_on}
use Rattle.sv_host.proofs.NudgeLemmas.{one_more}
use Rattle.sv_host.proofs.nudges.add_nudges.Goals as goal

pub returns-in_err-add_nudge-clause-clients : goal.returns-in_err-add_nudge-clause-clients
returns-in_err-add_nudge-clause-clients c = gathers_on _ _ _ _ _ _ c.loop-done.invariant.gathered.before c.loop-done.invariant.clients c.add_nudge.ensures.clients

pub returns-then-not-branch-clause-clients : goal.returns-then-not-branch-clause-clients
returns-then-not-branch-clause-clients c = gathers_on _ _ _ _ _ _ c.loop-done.invariant.gathered.before c.loop-done.invariant.clients c.add_nudge.ensures.clients

pub loop-done-preserved : goal.loop-done-preserved
loop-done-preserved c = record {
  gathered = record { rising = c.add_nudge.ensures.gathered.rising; before = c.add_nudge.ensures.gathered.before ∙ c.loop-done.invariant.gathered.before };
  has = subst (λ (count : ℕ). HasNudges c.args.nudges.nudge (steady_of c.args.server.now.time) count c.args.group.now c.add_nudge.new.group) (let next : suc c.loop-done._done ≡ c.loop-done._done + 1 = omega arith in next)
      (one_more c.args.nudges.nudge (steady_of c.args.server.now.time) (steady_of c.loop-done.server.time) c.loop-done._done c.args.group.now c.loop-done.group c.add_nudge.new.group c.loop-done.invariant.later c.loop-done.invariant.has
      (c.in_ok-add_nudge.ensures.added c.if-not-branch.false));
  clients = gathers_on _ _ _ _ _ _ c.loop-done.invariant.gathered.before c.loop-done.invariant.clients c.add_nudge.ensures.clients;
  later = omega arith;
  carried = λ first so_far. c.add_nudge.ensures.carried first (c.loop-done.invariant.carried first so_far);
}
