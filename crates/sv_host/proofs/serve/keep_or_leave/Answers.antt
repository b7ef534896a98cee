use Rattle.sv_net.proofs.ContinueLemmas.{all_places, with_all}
use Rattle.sv_host.proofs.serve.keep_or_leave.Goals as goal

pub returns-in-ForEver-clause-go_on : goal.returns-in-ForEver-clause-go_on
returns-in-ForEver-clause-go_on c =
    with_all c.args.place c.args.open c.args.server.now.connections c.leave.new.self (all_places c.args.server.now.connections c.leave.new.self c.leave.ensures.places)
