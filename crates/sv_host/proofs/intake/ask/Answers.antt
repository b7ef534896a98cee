use Rattle.sv_host.proofs.Prelude.{◌≡◌, Bool, false, ap, refl, held_by, IsQuiet, IsSilent, put_holds}
use Rattle.sv_model.specs.Method.{is_head}
use Rattle.sv_net.specs.declared.state.State.TheVariants.{Waiting}
use Rattle.sv_host.proofs.intake.ask.Goals as goal

-- who is kept waits under the number of its request
pub returns-clause-stands : goal.returns-clause-stands
returns-clause-stands c =
    put_holds (λ held. held.state ≡ Waiting c.args.client (is_head c.args.request.method) c.args.request.close c.args.token false) c.args.from.place _
    c.args.server.now.connections c.begin.new.self c.begin.ensures.places
    (ap (λ (head_only : Bool). Waiting c.args.client head_only c.args.request.close c.args.token false) c.is_head-head_only.ensures)

pub returns-clause-left : goal.returns-clause-left
returns-clause-left c = λ none.
    put_holds (λ held. IsQuiet c.args.from.socket held.socket × IsSilent (held_by c.args.client.connection) held.state) c.args.from.place _ c.args.server.now.connections c.begin.new.self
    c.begin.ensures.places (record { came = refl; went = refl }, record { nothing_unsent = refl; rest_is = refl })
