use Rattle.sv_net.proofs.ContinueLemmas.{continues_same, with_kept}
use Rattle.sv_net.proofs.connections.Connections.keep_in_time.Goals as goal

pub returns-else-is_late : goal.returns-else-is_late
returns-else-is_late c =
    with_kept c.args.place c.args.open c.args.open c.args.self.now c.keep.new.self (continues_same c.args.open) c.keep.ensures.kept c.keep.ensures.others
