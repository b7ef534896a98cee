use Rattle.sv_host.proofs.Prelude.{refl}
use Rattle.sv_host.proofs.HandLemmas.{one_out}
use Rattle.sv_host.proofs.server.Server.hand_out_one.Goals as goal

pub returns-in-Ok-clause-told : goal.returns-in-Ok-clause-told
returns-in-Ok-clause-told c =
    let start = record c.args.self.now { connections = c.forget_call.new.self } in
    one_out c.args.way.asker c.args.answer c.in-Ok.outputs c.args.now c.args.self.now c.conclude.new.self c.in-Ok.is
    (start, c.hand_on.new.self, (refl, c.forget_call.ensures), c.hand_on.ensures.told, c.conclude.ensures.told)
