use Rattle.sv_host.proofs.HandLemmas.{not_sent}
use Rattle.sv_host.proofs.server.Server.hand_on_some.Goals as goal

-- a packet that isn't to be sent
pub returns-else-takes-clause-told : goal.returns-else-takes-clause-told
returns-else-takes-clause-told c = not_sent c.args.sending.now c.args.output c.takes.result c.args.now c.args.self.now c.takes.ensures.passes c.if-takes.false
