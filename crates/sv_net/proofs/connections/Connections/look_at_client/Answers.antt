use Rattle.sv_net.proofs.Prelude.{refl}
use Rattle.sv_net.proofs.ContinueLemmas.{all_places, continues_quiet, continues_then, with_all, with_kept}
use Rattle.sv_net.proofs.connections.Connections.look_at_client.Goals as goal

pub returns-in-Open : goal.returns-in-Open
returns-in-Open c =
    let was = record c.args.open { socket = c.sign.new.self } in
    with_kept c.args.place c.args.open was c.args.self.now c.keep.new.self (continues_quiet c.args.open was c.sign.ensures refl) c.keep.ensures.kept c.keep.ensures.others

-- it sends no more
pub returns-in-Ended : goal.returns-in-Ended
returns-in-Ended c =
    let was = record c.args.open { socket = c.sign.new.self } in
    with_kept c.args.place c.args.open c.silenced.result c.args.self.now c.keep-in-Ended.new.self
    (continues_then c.args.open was c.silenced.result (continues_quiet c.args.open was c.sign.ensures refl) c.silenced.ensures) c.keep-in-Ended.ensures.kept c.keep-in-Ended.ensures.others

-- it is gone
pub returns-in-Broken : goal.returns-in-Broken
returns-in-Broken c = with_all c.args.place c.args.open c.args.self.now c.leave.new.self (all_places c.args.self.now c.leave.new.self c.leave.ensures.places)
