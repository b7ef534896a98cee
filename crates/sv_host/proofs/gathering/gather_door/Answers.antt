use Rattle.sv_host.proofs.Prelude.{ap, ◌∙◌, clients_of}
use Rattle.sv_host.proofs.AskedLemmas.{gathers_through}
use Rattle.sv_host.proofs.GatherLemmas.{more_on}
use Rattle.sv_host.proofs.StoryLemmas.{carry_continue}
use Rattle.sv_host.proofs.gathering.gather_door.Goals as goal

pub returns-in_err-take_in-clause-clients : goal.returns-in_err-take_in-clause-clients
returns-in_err-take_in-clause-clients c = gathers_through _ _ _ _ _ _ _ c.loop.invariant.gathered.before (ap (λ p. clients_of p) c.admit.ensures.clients) c.loop.invariant.clients c.take_in.ensures.clients

pub loop-preserved : goal.loop-preserved
loop-preserved c = record {
  gathered = record { rising = c.take_in.ensures.gathered.rising; before = c.take_in.ensures.gathered.before ∙ c.loop.invariant.gathered.before };
  more = more_on c.loop.invariant.more c.take_in.ensures.more;
  clients = gathers_through _ _ _ _ _ _ _ c.loop.invariant.gathered.before (ap (λ p. clients_of p) c.admit.ensures.clients) c.loop.invariant.clients c.take_in.ensures.clients;
  carried = λ first so_far.
      carry_continue c.take_in.new.server.connections c.look_at_door.new.connections c.look_at_door.ensures first (c.take_in.ensures.carried c.in-Some.ensures.newcomer.0 c.in-Some.ensures.newcomer.1 first (c.admit.ensures.carried first (c.loop.invariant.carried first so_far)));
}

pub returns-in_err-take_in-clause-carried : goal.returns-in_err-take_in-clause-carried
returns-in_err-take_in-clause-carried c = λ first so_far.
    c.take_in.ensures.carried c.in-Some.ensures.newcomer.0 c.in-Some.ensures.newcomer.1 first (c.admit.ensures.carried first (c.loop.invariant.carried first so_far))
