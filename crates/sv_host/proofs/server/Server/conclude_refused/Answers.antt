use Rattle.sv_host.proofs.Prelude.{refl}
use Rattle.sv_host.proofs.DeedLemmas.{carry_obeyed}
use Rattle.sv_host.proofs.HandLemmas.{client_refused, command_refused}
use Rattle.sv_host.proofs.server.Server.conclude_refused.Goals as goal

pub returns-in-Client-clause-told : goal.returns-in-Client-clause-told
returns-in-Client-clause-told c =
    client_refused c.args.asker c.in-Client.place c.in-Client.token c.args.fault c.cause.result c.args.now c.args.self.now c.refuse.new.self c.in-Client.is c.cause.ensures
    (c.refuse.ensures.clients, c.refuse.ensures.refused, c.refuse.ensures.others)

pub returns-in-Command-clause-told : goal.returns-in-Command-clause-told
returns-in-Command-clause-told c =
    command_refused c.args.asker c.in-Command.place c.answer_byte.result c.args.fault c.args.now c.args.self.now _ c.in-Command.is refl c.obeyed.ensures.spares c.obeyed.ensures.told

pub returns-in-Command-clause-carried : goal.returns-in-Command-clause-carried
returns-in-Command-clause-carried c =
    carry_obeyed c.answer_byte.result c.in-Command.place (record c.args.self.now.connections { report = c.note.new.self }) c.obeyed.new.self c.obeyed.ensures.told
