use Rattle.sv_host.proofs.Prelude.{◌≡◌, Bool, true, false, cond, ℕ, Option, Some, None, refl, sym, ap, subst, ◌∙◌, IfSome, option_map, Came, Comes}
use Rattle.sv_model.specs.Migration.{sender}
use Rattle.sv_host.specs.Peers.{takes}
use Rattle.sv_host.specs.Heard.{input_of}
use Rattle.sv_record.specs.Frame.{IsFrame}
use Rattle.sv_host.proofs.intake.take_frame.Goals as goal

-- what comes of a packet, whether its node's are taken or not
comes_if : (place number : ℕ) (taken : Bool) (came : Came) → Comes place number came → IfSome (cond taken (Some came) None) (λ came. Comes place number came)
comes_if place number true came comes = comes
comes_if place number false came comes = tt

input_if : (taken : Bool) (came : Came) → option_map (λ (came : Came). came.input) (cond taken (Some came) None) ≡ cond taken (Some came.input) None
input_if true came = refl
input_if false came = refl

pub returns-in-Peer-clause-comes : goal.returns-in-Peer-clause-comes
returns-in-Peer-clause-comes c = λ number.
    subst (λ (o : Option Came). IfSome o (λ came. Comes c.args.from.place number came)) (sym c.take_packet.ensures.came)
    (comes_if c.args.from.place number (takes c.args.server.now.peers (sender c.in-Peer.packet)) _
    (record { within = subst (λ f. IsFrame f) c.in-Peer.is c.requires; above = λ low below. tt; asked = (refl, refl) }))

pub returns-in-Peer-clause-input : goal.returns-in-Peer-clause-input
returns-in-Peer-clause-input c =
    ap (option_map (λ (came : Came). came.input)) c.take_packet.ensures.came ∙ input_if (takes c.args.server.now.peers (sender c.in-Peer.packet)) _
    ∙ sym (ap (input_of c.args.server.now.peers) c.in-Peer.is)

pub returns-in-Move-clause-comes : goal.returns-in-Move-clause-comes
returns-in-Move-clause-comes c = λ number.
    subst (λ (o : Option Came). IfSome o (λ came. Comes c.args.from.place number came)) (sym c.obey.ensures.came)
    (record { within = tt; above = λ low below. tt; asked = (refl, refl) })

pub returns-in-Tick-clause-comes : goal.returns-in-Tick-clause-comes
returns-in-Tick-clause-comes c = λ number.
    subst (λ (o : Option Came). IfSome o (λ came. Comes c.args.from.place number came)) (sym c.obey-in-Tick.ensures.came)
    (record { within = tt; above = λ low below. tt; asked = (refl, refl) })
