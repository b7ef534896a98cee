use Rattle.sv_host.proofs.Prelude.{◌∙◌}
use Rattle.sv_host.proofs.AskedLemmas.{gathers_on}
use Rattle.sv_host.proofs.HoldingLemmas.{more_wants_on}
use Rattle.sv_host.proofs.server.Server.release.Goals as goal

pub returns-in_err-release_one-clause-clients : goal.returns-in_err-release_one-clause-clients
returns-in_err-release_one-clause-clients c = gathers_on _ _ _ _ _ _ c.loop.invariant.gathered.before c.loop.invariant.clients c.release_one.ensures.clients

pub loop-preserved : goal.loop-preserved
loop-preserved c = record {
  gathered = record { rising = c.release_one.ensures.gathered.rising; before = c.release_one.ensures.gathered.before ∙ c.loop.invariant.gathered.before };
  more = more_wants_on c.loop.invariant.more c.release_one.ensures.more;
  clients = gathers_on _ _ _ _ _ _ c.loop.invariant.gathered.before c.loop.invariant.clients c.release_one.ensures.clients;
  carried = λ first so_far. c.release_one.ensures.carried first (c.loop.invariant.carried first so_far);
}
