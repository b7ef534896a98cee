use Rattle.std.proofs.Common.{◌≡◌, ◌+◌, ◌≤◌, ◌++◌, length, map, vec_items, vec_len, vec_capacity}
use Rattle.std.specs.List.{flat_map}
use Rattle.std.specs.Vec.Iter.{into_iter_items, into_iter_len}
use Rattle.sv_core.specs.Core.{engine_of, node_at, setting_of}
use Rattle.sv_node.proofs.Prelude.{heard_all, with_list, events_held, outcomes}
use Rattle.sv_node.proofs.group.tell_all.Given as goal

abbrev pub invariant-loop-one : goal.invariant-loop-one
invariant-loop-one g l = record {
  valid : g.E.Engine.valid (engine_of l.core);
  meaning : g.E.Engine.meaning (engine_of l.core) ≡ g.E.Engine.meaning (engine_of l.fn.core);
  node : node_at l.core ≡ node_at l.fn.core;
  setting : setting_of l.core ≡ setting_of l.fn.core;
  heard : heard_all (g.E.Engine.meaning (engine_of l.fn.core)) (g.E.Engine.heard (engine_of l.core)) (flat_map events_held (into_iter_items l.one-iterator))
      ≡ heard_all (g.E.Engine.meaning (engine_of l.fn.core)) (g.E.Engine.heard (engine_of l.fn.core)) (flat_map events_held l.fn.held.items);
  answers : map (with_list vec_items) l.answers.items ++ outcomes (into_iter_items l.one-iterator) ≡ outcomes l.fn.held.items;
  long : into_iter_len l.one-iterator ≡ length (into_iter_items l.one-iterator);
  memory : vec_len l.answers + into_iter_len l.one-iterator ≤ vec_capacity l.answers;
}
