use Rattle.sv_world.proofs.SentLemmas.{same_as_test}
use Rattle.sv_world.proofs.sent.is_packet.Goals as goal

pub returns : goal.returns
returns c = same_as_test c.args.one.now c.args.other.now c.is_same.result c.is_same.ensures
