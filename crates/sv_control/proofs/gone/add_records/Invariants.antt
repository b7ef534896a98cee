use Rattle.std.proofs.Common.{◌≡◌, drop, map}
use Rattle.sv_core.specs.Core.{durable_at}
use Rattle.sv_control.specs.Gone.{seen_in}
use Rattle.sv_control.proofs.gone.add_records.Given as goal

abbrev pub invariant-loop-entry : goal.invariant-loop-entry
invariant-loop-entry l =
    seen_in l.gone (map durable_at l.nodes) (drop l.entry-index l.records) l.seen.entries ≡ seen_in l.gone (map durable_at l.nodes) l.records l.fn.seen.entries
