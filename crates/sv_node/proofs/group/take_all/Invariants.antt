use Rattle.std.proofs.Common.{◌≡◌, ◌+◌, ◌≤◌, length, vec_len, vec_capacity}
use Rattle.std.specs.List.{AllByRecursion}
use Rattle.std.specs.Vec.Iter.{into_iter_items, into_iter_len}
use Rattle.sv_core.specs.Core.{engine_of, node_at, setting_of}
use Rattle.sv_node.proofs.Prelude.{IsInput, IsRanged, FitsIn}
use Rattle.sv_node.proofs.GroupLemmas.{Taking}
use Rattle.sv_node.proofs.group.take_all.Given as goal

abbrev pub invariant-loop-next : goal.invariant-loop-next
invariant-loop-next g l = record {
  valid : g.E.Engine.valid (engine_of l.core);
  meaning : g.E.Engine.meaning (engine_of l.core) ≡ g.E.Engine.meaning (engine_of l.fn.core);
  heard : g.E.Engine.heard (engine_of l.core) ≡ g.E.Engine.heard (engine_of l.fn.core);
  setting : setting_of l.core ≡ setting_of l.fn.core;
  ranged : IsRanged (node_at l.core);
  room : FitsIn l.journal l.batch;
  inputs : AllByRecursion (λ i. IsInput i.1) (into_iter_items l.next-iterator);
  taking : Taking l.journal (g.E.Engine.meaning (engine_of l.fn.core)) (setting_of l.fn.core) (node_at l.fn.core) l.fn.inputs.items l.held.items l.batch (node_at l.core) (into_iter_items l.next-iterator);
  long : into_iter_len l.next-iterator ≡ length (into_iter_items l.next-iterator);
  memory : vec_len l.held + into_iter_len l.next-iterator ≤ vec_capacity l.held;
  count : length l.held.items + into_iter_len l.next-iterator ≡ length l.fn.inputs.items;
}
