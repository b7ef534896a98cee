use Rattle.std.specs.Prelude.{◌<◌, IfSome}
use Rattle.test_requests.proofs.connection.tests.alone.a_node_alone_ends_what_has_expired.Given as goal

abbrev pub invariant-loop-tick : goal.invariant-loop-tick
invariant-loop-tick g l = IfSome l.site.engine.named (λ n. (n.0.home < 8) × (0 < n.0.serial))
