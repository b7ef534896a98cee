use Rattle.sv_host.proofs.DeedLemmas.{carry_own}
use Rattle.sv_host.proofs.greeting.greet.Goals as goal

-- it is said on a connection of the node's own
pub returns-in-Some-clause-carried : goal.returns-in-Some-clause-carried
returns-in-Some-clause-carried c = carry_own c.args.server.now.connections c.greet.new.self c.greet.ensures.admits
