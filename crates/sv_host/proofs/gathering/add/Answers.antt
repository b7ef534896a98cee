use Rattle.sv_host.proofs.Prelude.{ap, inr, refl, clients_of, last_of, Server}
use Rattle.sv_host.proofs.AskedLemmas.{gathers_away, gathers_came, gathers_is, gathers_same}
use Rattle.sv_host.proofs.GatherLemmas.{lacks, none_more, one_more}
use Rattle.sv_host.proofs.gathering.add.Goals.{then-not-add, else-not-add}
use Rattle.sv_host.proofs.gathering.add.Goals as goal

pub returns-after-not-add-clause-more : goal.returns-after-not-add-clause-more
returns-after-not-add-clause-more c =
    let came = c.args.came in
    elim c.if-not-add.branch [
      | then-not-add w ↦ none_more (c.add.ensures.same w.if-not-add.true)
      | else-not-add w ↦
          one_more {one = (c.in-Ok.moment, came.input)} {way = record { asker = came.asker; packets = came.packets }} c.args.number (c.add.ensures.added w.if-not-add.false) c.requires.heard
    ]

pub returns-in-Err-clause-ends : goal.returns-in-Err-clause-ends
returns-in-Err-clause-ends c = inr (inr (lacks (last_of c.args.server.now.secrets) (last_of c.moment.new.self.secrets) c.in-Err.stop c.in-Err.ensures.secret))

pub returns-after-not-add-clause-clients : goal.returns-after-not-add-clause-clients
returns-after-not-add-clause-clients c =
    elim c.if-not-add.branch [
      | then-not-add w ↦
          gathers_is _ _ _ _ _ _ refl (ap (λ (s : Server). clients_of s.parked) w.server-is)
          (gathers_away c.requires.comes.0 c.args.number c.args.came c.args.group.now c.add.new.self _ _ _ (ap (λ p. clients_of p) c.moment.ensures.clients) w.turn_away.ensures.clients (c.add.ensures.same w.if-not-add.true)
          c.requires.comes.1 c.requires.above c.requires.rising)
      | else-not-add w ↦
          gathers_is _ _ _ _ _ _ refl (ap (λ (s : Server). clients_of s.parked) w.server-is)
          (gathers_came c.requires.comes.0 c.args.number c.args.came c.in-Ok.moment c.args.group.now c.add.new.self _ _ (ap (λ p. clients_of p) c.moment.ensures.clients) (c.add.ensures.added w.if-not-add.false) c.requires.asked
          c.requires.comes.1 c.requires.rising)
    ]

pub returns-in-Err-clause-clients : goal.returns-in-Err-clause-clients
returns-in-Err-clause-clients c = gathers_same c.args.group.now _ _ (ap (λ p. clients_of p) c.moment.ensures.clients) c.requires.rising
