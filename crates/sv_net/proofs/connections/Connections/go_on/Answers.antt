use Rattle.sv_net.proofs.ContinueLemmas.{continues_same, with_kept}
use Rattle.sv_net.proofs.connections.Connections.go_on.Goals as goal

pub returns-in_default : goal.returns-in_default
returns-in_default c = λ none.
    with_kept c.args.place c.args.open c.args.open c.args.self.now c.keep.new.self (continues_same c.args.open) c.keep.ensures.kept c.keep.ensures.others
