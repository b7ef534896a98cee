use Rattle.sv_host.proofs.Prelude.{[], inl, inr, refl}
use Rattle.sv_net.proofs.SendingLemmas.{same_among}
use Rattle.sv_host.proofs.DeedLemmas.{carry_sends}
use Rattle.sv_net.specs.Sending.{links_of}
use Rattle.sv_record.specs.Frame.{spelling}
use Rattle.sv_record.specs.declared.frame.Frame.TheVariants.{Peer}
use Rattle.sv_host.proofs.server.Server.send.Goals as goal

-- the cluster has no such node
pub returns-in-None-clause-sends : goal.returns-in-None-clause-sends
returns-in-None-clause-sends c =
    let links = links_of c.args.self.now.connections in
    ([], inl refl, inr (inr (record { links = same_among links links refl; people = λ q. refl })))

-- it is sent by a connection of the node's own
pub returns-in-Some-clause-carried : goal.returns-in-Some-clause-carried
returns-in-Some-clause-carried c = carry_sends c.addressee-to.result (spelling (Peer c.args.packet)) c.args.self.now.connections c.send.new.self c.send.ensures.sends
