use Rattle.std.specs.Prelude.{Some, None}
use Rattle.sv_net.proofs.PlaceLemmas.{set_twice}
use Rattle.sv_net.proofs.Prelude.{places_of}
use Rattle.sv_net.proofs.connections.Connections.seat.Goals as goal

pub returns-then-place-len-clause-others : goal.returns-then-place-len-clause-others
returns-then-place-len-clause-others c = set_twice (places_of c.args.self.now) c.args.place (Some c.args.open) None
