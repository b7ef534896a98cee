use Rattle.std.specs.Prelude.{None}
use Rattle.sv_net.proofs.PlaceLemmas.{set_twice}
use Rattle.sv_net.proofs.Prelude.{places_of}
use Rattle.sv_net.proofs.connections.Connections.take.Goals as goal

pub returns-clause-others : goal.returns-clause-others
returns-clause-others c = set_twice (places_of c.args.self.now) c.args.place c.take.new.self None
