use Rattle.std.proofs.Common.{◌≡◌, drop, map}
use Rattle.sv_core.specs.Core.{durable_at}
use Rattle.sv_control.specs.Gone.{is_sent}
use Rattle.sv_control.proofs.gone.is_sent.Given as goal

abbrev pub invariant-loop-node : goal.invariant-loop-node
invariant-loop-node l = is_sent l.gone l.key (map durable_at l.nodes) ≡ is_sent l.gone l.key (map durable_at (drop l.node-index l.nodes))
