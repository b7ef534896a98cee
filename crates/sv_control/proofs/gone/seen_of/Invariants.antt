use Rattle.std.proofs.Common.{◌≡◌, drop, map}
use Rattle.sv_core.specs.Core.{durable_at}
use Rattle.sv_control.specs.Gone.{seen_by, seen_of}
use Rattle.sv_control.proofs.gone.seen_of.Given as goal

abbrev pub invariant-loop-node : goal.invariant-loop-node
invariant-loop-node l =
    seen_by l.gone (map durable_at l.nodes) (map durable_at (drop l.node-index l.nodes)) l.seen.entries ≡ seen_of l.gone (map durable_at l.nodes)
