use Rattle.sv_host.proofs.Prelude.{◌∙◌}
use Rattle.sv_host.proofs.AskedLemmas.{gathers_on}
use Rattle.sv_host.proofs.GatherLemmas.{more_on}
use Rattle.sv_host.proofs.gathering.gather_reported.Goals as goal

pub returns-in_err-gather_some-clause-clients : goal.returns-in_err-gather_some-clause-clients
returns-in_err-gather_some-clause-clients c = gathers_on _ _ _ _ _ _ c.loop-place.invariant.gathered.before c.loop-place.invariant.clients c.gather_some.ensures.clients

pub loop-place-preserved : goal.loop-place-preserved
loop-place-preserved c = record {
  gathered = record { rising = c.gather_some.ensures.gathered.rising; before = c.gather_some.ensures.gathered.before ∙ c.loop-place.invariant.gathered.before };
  more = more_on c.loop-place.invariant.more c.gather_some.ensures.more;
  clients = gathers_on _ _ _ _ _ _ c.loop-place.invariant.gathered.before c.loop-place.invariant.clients c.gather_some.ensures.clients;
  carried = λ first so_far. c.gather_some.ensures.carried first (c.loop-place.invariant.carried first so_far);
}
