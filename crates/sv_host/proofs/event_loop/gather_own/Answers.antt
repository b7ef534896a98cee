use Rattle.sv_host.proofs.Prelude.{ap, ◌∙◌, clients_of}
use Rattle.sv_host.proofs.AskedLemmas.{gathers_on, gathers_through}
use Rattle.sv_host.proofs.event_loop.gather_own.Goals as goal

pub returns-in_err-add_pokes-clause-clients : goal.returns-in_err-add_pokes-clause-clients
returns-in_err-add_pokes-clause-clients g c =
    let shares = c.keep_shares.ensures in
    let wants = c.hold_wants-count.ensures in
    gathers_on _ _ _ _ _ _ (wants.gathered.before ∙ shares.gathered.before)
    (gathers_through _ _ _ _ _ _ _ shares.gathered.before (ap (λ p. clients_of p) c.held_time-now.ensures.clients) shares.clients wants.clients) c.add_pokes.ensures.clients

pub returns-clause-clients : goal.returns-clause-clients
returns-clause-clients g c =
    let shares = c.keep_shares.ensures in
    let wants = c.hold_wants-count.ensures in
    let before = wants.gathered.before ∙ shares.gathered.before in
    gathers_on _ _ _ _ _ _ (c.add_pokes.ensures.gathered.before ∙ before)
    (gathers_on _ _ _ _ _ _ before (gathers_through _ _ _ _ _ _ _ shares.gathered.before (ap (λ p. clients_of p) c.held_time-now.ensures.clients) shares.clients wants.clients) c.add_pokes.ensures.clients)
    c.release.ensures.clients

pub returns-in_err-add_pokes-clause-carried : goal.returns-in_err-add_pokes-clause-carried
returns-in_err-add_pokes-clause-carried g c = λ first so_far.
    c.add_pokes.ensures.carried first (c.hold_wants-count.ensures.carried first (c.held_time-now.ensures.carried first (c.keep_shares.ensures.carried first so_far)))

pub returns-clause-carried : goal.returns-clause-carried
returns-clause-carried g c = λ first so_far.
    c.release.ensures.carried first
    (c.add_pokes.ensures.carried first (c.hold_wants-count.ensures.carried first (c.held_time-now.ensures.carried first (c.keep_shares.ensures.carried first so_far))))
