use Rattle.std.proofs.Common.{◌≡◌, None, drop, map}
use Rattle.sv_core.specs.Core.{durable_at}
use Rattle.sv_control.specs.Gone.{latest_of}
use Rattle.sv_control.proofs.gone.latest_of.Given as goal

abbrev pub invariant-loop-node : goal.invariant-loop-node
invariant-loop-node l = latest_of l.gone l.key l.last (map durable_at (drop l.node-index l.nodes)) ≡ latest_of l.gone l.key None (map durable_at l.nodes)
