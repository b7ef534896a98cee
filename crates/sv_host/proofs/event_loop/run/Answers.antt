use Rattle.sv_host.proofs.Prelude.{ap, Err, inl, refl, arith, ⊤, before_of, clients_of, goes_nowhere, gone_join, runs_join, runs_nowhere}
use Rattle.sv_host.proofs.HavingLemmas.{have_nobody, have_same}
use Rattle.sv_node.proofs.HistoryLemmas.{goes_join}
use Rattle.sv_host.proofs.event_loop.run.Goals as goal

pub take_turn-requires : goal.take_turn-requires
take_turn-requires g c =
    let l = c.loop-turn in
    record {
      valid = l.invariant.valid;
      live = l.invariant.goes.live;
      rising = l.invariant.rising;
      clients = have_same (clients_of l.server.parked) _ l.node l.node l.group refl (ap (λ p. clients_of p) c.greet_in_time.ensures.clients) l.invariant.clients;
    }

pub returns-in-Err-clause-ended : goal.returns-in-Err-clause-ended
returns-in-Err-clause-ended g c =
    let e = g.E.Engine in
    let d = g.D.Disk in
    let l = c.loop-turn in
    let more = before_of c.take_turn.new.group in
    (more, gone_join e.meaning e.heard d.tells d.may_leave d.moment d.left_since 0 (before_of l.group) more c.args.node.now l.node c.take_turn.new.node l.invariant.goes {T = ⊤} {F = ⊤} (Err tt) c.in-Err.ensures.served.gone)

pub loop-turn-preserved : goal.loop-turn-preserved
loop-turn-preserved g c =
    let e = g.E.Engine in
    let d = g.D.Disk in
    let l = c.loop-turn in
    record {
      valid = c.take_turn.ensures.served.valid;
      rising = c.take_turn.ensures.served.rising;
      clients = c.in_default-take_turn.ensures.served.clients;
      goes = goes_join e.meaning e.heard d.tells d.may_leave d.moment d.left_since 0 (before_of l.group) (before_of c.take_turn.new.group) c.args.node.now l.node c.take_turn.new.node l.invariant.goes c.in_default-take_turn.ensures.served.gone;
      runs = runs_join e.meaning e.heard d.tells d.seen d.may_leave d.moment d.left_since 0 (before_of l.group) (before_of c.take_turn.new.group) c.args.node.now l.node c.take_turn.new.node l.invariant.goes l.invariant.runs
          c.take_turn.ensures.served.runs;
      turns = omega arith;
      carried = λ first so_far. c.take_turn.ensures.carried first (c.greet_in_time.ensures.carried first (l.invariant.carried first so_far));
    }

pub loop-turn-init : goal.loop-turn-init
loop-turn-init g c =
    let e = g.E.Engine in
    let d = g.D.Disk in
    record {
      valid = c.requires.valid;
      rising = c.new-group.ensures.rising;
      clients = have_nobody (clients_of c.args.server.now.parked) c.args.node.now c.new-group.result c.requires.nobody_waits c.new-group.ensures.empty c.new-group.ensures.nobody;
      goes = goes_nowhere e.meaning e.heard d.tells d.may_leave d.moment d.left_since 0 (before_of c.new-group.result) c.args.node.now (omega arith) c.requires.live;
      runs = runs_nowhere e.meaning e.heard d.tells d.seen d.may_leave d.moment d.left_since 0 c.args.node.now;
      turns = refl;
      carried = λ first so_far. so_far;
    }

pub returns-clause-ended : goal.returns-clause-ended
returns-clause-ended g c = (before_of c.loop-turn.group, inl c.loop-turn.invariant.goes)

pub returns-in-Some-clause-ended : goal.returns-in-Some-clause-ended
returns-in-Some-clause-ended g c = (before_of c.loop-turn.group, inl c.loop-turn.invariant.goes)

pub returns-in-Err-clause-runs : goal.returns-in-Err-clause-runs
returns-in-Err-clause-runs g c =
    let e = g.E.Engine in
    let d = g.D.Disk in
    let l = c.loop-turn in
    runs_join e.meaning e.heard d.tells d.seen d.may_leave d.moment d.left_since 0 (before_of l.group) (before_of c.take_turn.new.group) c.args.node.now l.node c.take_turn.new.node l.invariant.goes l.invariant.runs
    c.take_turn.ensures.served.runs

pub returns-clause-runs : goal.returns-clause-runs
returns-clause-runs g c = c.loop-turn.invariant.runs

pub returns-in-Some-clause-runs : goal.returns-in-Some-clause-runs
returns-in-Some-clause-runs g c = c.loop-turn.invariant.runs

pub returns-in-Some-clause-carried : goal.returns-in-Some-clause-carried
returns-in-Some-clause-carried g c = λ first so_far. c.greet_in_time.ensures.carried first (c.loop-turn.invariant.carried first so_far)

pub returns-in-Err-clause-carried : goal.returns-in-Err-clause-carried
returns-in-Err-clause-carried g c = λ first so_far. c.take_turn.ensures.carried first (c.greet_in_time.ensures.carried first (c.loop-turn.invariant.carried first so_far))
