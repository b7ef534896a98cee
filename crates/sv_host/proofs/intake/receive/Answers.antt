use Rattle.sv_host.proofs.Prelude.{refl, put_holds, IsQuiet, IsSilent}
use Rattle.sv_host.proofs.intake.receive.Goals as goal

-- what came after the packet is still to be heard
pub returns-clause-left : goal.returns-clause-left
returns-clause-left c = λ none.
    put_holds (λ held. IsQuiet c.args.from.socket held.socket × IsSilent c.args.rest.items held.state) c.args.from.place _ c.args.server.now.connections c.begin.new.self
    c.begin.ensures.places (record { came = refl; went = refl }, record { nothing_unsent = c.taken.ensures.unsent; rest_is = c.taken.ensures.unread })
