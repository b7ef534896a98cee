use Rattle.sv_world.proofs.Prelude.{◌≡◌, drop, vec_capacity, AreFilled}
use Rattle.std.proofs.Common.{take, length}
use Rattle.sv_world.proofs.filling.fill_slots.Given as goal

abbrev pub invariant-loop-node : goal.invariant-loop-node
invariant-loop-node g l = record {
  filled : AreFilled (length l.fn.engines.items) l.rules (take l.node l.fn.engines.items) l.slots.items;
  rest : l.engines.items ≡ drop l.node l.fn.engines.items;
  long : length l.slots.items ≡ l.node;
  capacity : vec_capacity l.engines ≡ vec_capacity l.fn.engines;
  room : vec_capacity l.slots ≡ vec_capacity l.fn.slots;
}
