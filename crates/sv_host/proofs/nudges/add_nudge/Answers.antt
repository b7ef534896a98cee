use Rattle.sv_host.proofs.Prelude.{ap, subst, sym, HasAsked, Nobody, Nudge, Poke, Tick, LateTick, ParkedClient, input_of, clients_of, Input, number_of}
use Rattle.sv_host.proofs.AskedLemmas.{gathers_nobody}
use Rattle.std.specs.Prelude.{List}
use Rattle.sv_host.proofs.nudges.add_nudge.Goals as goal

pub add-requires-clause-above : goal.add-requires-clause-above
add-requires-clause-above c = c.input.ensures.above (number_of c.args.group.now)

-- no client asks for it
nobody_asks : (nudge : Nudge) (cs : List ParkedClient) → HasAsked cs (input_of nudge)
nobody_asks Poke cs = tt
nobody_asks Tick cs = tt
nobody_asks (LateTick second) cs = tt

pub returns-clause-clients : goal.returns-clause-clients
returns-clause-clients c =
    gathers_nobody c.add.result (c.at.result, c.input.result) (record { asker = Nobody; packets = c.args.packets }) c.args.group.now c.add.new.self (clients_of c.args.server.now.parked) _
    (ap (λ p. clients_of p) c.moment.ensures.clients) c.add.ensures.added c.add.ensures.same
    (subst (λ (i : Input). HasAsked (clients_of c.args.server.now.parked) i) (sym c.input.ensures.is) (nobody_asks c.args.nudge (clients_of c.args.server.now.parked))) tt c.requires
