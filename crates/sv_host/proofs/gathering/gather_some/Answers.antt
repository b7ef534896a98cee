use Rattle.sv_host.proofs.Prelude.{ap, ◌∙◌, clients_of, Server, places_of}
use Rattle.sv_host.proofs.AskedLemmas.{gathers_is, gathers_on}
use Rattle.sv_host.proofs.GatherLemmas.{more_on}
use Rattle.sv_host.proofs.StoryLemmas.{carry_places, carry_stood}
use Rattle.sv_host.proofs.gathering.gather_some.Goals.{else-loop-test, then-loop-test+in_ok-gather_one+else-not-branch+then-is_full}
use Rattle.sv_host.proofs.gathering.gather_some.Goals as goal

pub returns-in_err-gather_one-clause-clients : goal.returns-in_err-gather_one-clause-clients
returns-in_err-gather_one-clause-clients c = gathers_on _ _ _ _ _ _ c.loop.invariant.gathered.before c.loop.invariant.clients c.gather_one.ensures.clients

pub returns-then-not-branch-clause-clients : goal.returns-then-not-branch-clause-clients
returns-then-not-branch-clause-clients c = gathers_on _ _ _ _ _ _ c.loop.invariant.gathered.before c.loop.invariant.clients c.gather_one.ensures.clients

pub loop-preserved : goal.loop-preserved
loop-preserved c = record {
  gathered = record { rising = c.gather_one.ensures.gathered.rising; before = c.gather_one.ensures.gathered.before ∙ c.loop.invariant.gathered.before };
  more = more_on c.loop.invariant.more c.gather_one.ensures.more;
  clients = gathers_on _ _ _ _ _ _ c.loop.invariant.gathered.before c.loop.invariant.clients c.gather_one.ensures.clients;
  carried = λ first so_far. c.gather_one.ensures.carried first (c.loop.invariant.carried first so_far);
}

pub returns-clause-clients : goal.returns-clause-clients
returns-clause-clients c =
    elim c.loop-test.branch [
      | else-loop-test w ↦ gathers_is _ _ _ _ _ _ w.group-is (ap (λ (s : Server). clients_of s.parked) w.server-is) c.loop.invariant.clients
      | then-loop-test+in_ok-gather_one+else-not-branch+then-is_full w ↦
          gathers_is _ _ _ _ _ _ w.group-is (ap (λ (s : Server). clients_of s.parked) w.server-is)
          (gathers_on _ _ _ _ _ _ c.loop.invariant.gathered.before c.loop.invariant.clients w.gather_one.ensures.clients)
    ]

-- it is gone on with later
pub returns-clause-carried : goal.returns-clause-carried
returns-clause-carried c = λ first so_far.
    let mid = c.loop-test.server.connections in
    let before = c.loop.server.connections in
    carry_stood c.args.place mid c.call_again.new.self c.call_again.ensures.stood c.call_again.ensures.others first
    (elim c.loop-test.branch [
      | else-loop-test w ↦ carry_places before mid (ap (λ (s : Server). places_of s.connections) w.server-is) first (c.loop.invariant.carried first so_far)
      | then-loop-test+in_ok-gather_one+else-not-branch+then-is_full w ↦
          carry_places w.gather_one.new.server.connections mid (ap (λ (s : Server). places_of s.connections) w.server-is) first (w.gather_one.ensures.carried first (c.loop.invariant.carried first so_far))
    ])
