use Rattle.sv_host.proofs.Prelude.{refl}
use Rattle.sv_host.proofs.DeedLemmas.{carry_obeyed}
use Rattle.sv_host.proofs.HandLemmas.{commanded}
use Rattle.sv_host.proofs.StoryLemmas.{carry_stood}
use Rattle.sv_host.proofs.server.Server.conclude.Goals as goal

pub returns-in-Command-clause-told : goal.returns-in-Command-clause-told
returns-in-Command-clause-told c =
    commanded c.args.asker c.in-Command.place c.answer_byte.result c.args.self.now _ c.in-Command.is refl c.obeyed.ensures.spares c.obeyed.ensures.told

pub returns-in-Command-clause-carried : goal.returns-in-Command-clause-carried
returns-in-Command-clause-carried c = carry_obeyed c.answer_byte.result c.in-Command.place c.args.self.now.connections c.obeyed.new.self c.obeyed.ensures.told

pub returns-then-waits_at-clause-carried : goal.returns-then-waits_at-clause-carried
returns-then-waits_at-clause-carried c =
    carry_stood c.in-Client.place c.args.self.now.connections c.call_again.new.self c.call_again.ensures.stood c.call_again.ensures.others
