use Rattle.sv_host.proofs.Prelude.{ap, subst, sym, HasAsked, clients_of, Nobody, Input}
use Rattle.sv_host.specs.declared.packets.Packets.TheVariants.{All}
use Rattle.sv_host.proofs.AskedLemmas.{gathers_nobody}
use Rattle.sv_host.proofs.server.Server.release_one.Goals as goal

pub returns-clause-clients : goal.returns-clause-clients
returns-clause-clients c =
    gathers_nobody c.add-added.result (c.in_ok-moment.moment, c.input.result) (record { asker = Nobody; packets = All }) c.args.group.now c.add-added.new.self (clients_of c.args.self.now.parked) _
    (ap (λ p. clients_of p) c.moment.ensures.clients) c.add-added.ensures.added c.add-added.ensures.same
    (subst (λ (i : Input). HasAsked (clients_of c.args.self.now.parked) i) (sym c.input.ensures.input) tt) tt c.requires
