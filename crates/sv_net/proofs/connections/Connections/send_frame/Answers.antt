use Rattle.sv_net.proofs.Prelude.{ℕ, refl, subst, went_of, SendsBehind}
use Rattle.sv_net.proofs.SendingLemmas.{behind_then}
use Rattle.sv_net.proofs.connections.Connections.send_frame.Goals as goal

-- after what had left by the link
pub returns-in-Some-clause-sends : goal.returns-in-Some-clause-sends
returns-in-Some-clause-sends c =
    let link = c.in-Some.link in
    let before = went_of link.socket in
    let text = c.args.frame.items in (
      before,
      c.in-Some.ensures.link.left_by,
      behind_then c.args.to before text c.args.self.now (record c.args.self.now { links = c.link_to.new.self }) c.call.new.self c.in-Some.ensures.others (λ q. refl)
          (subst (λ (node : ℕ). SendsBehind node before text (record c.args.self.now { links = c.link_to.new.self }) c.call.new.self) c.in-Some.ensures.link.node c.call.ensures.sends),
    )
