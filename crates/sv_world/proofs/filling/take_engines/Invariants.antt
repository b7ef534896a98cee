use Rattle.sv_world.proofs.Prelude.{◌≡◌, drop, Some, vec_capacity, engine_in}
use Rattle.std.proofs.Common.{map, take, length}
use Rattle.sv_world.proofs.filling.take_engines.Given as goal

abbrev pub invariant-loop-count : goal.invariant-loop-count
invariant-loop-count g l = record {
  taken : map Some l.engines.items ≡ map engine_in (take l._count l.fn.slots.items);
  rest : l.slots.items ≡ drop l._count l.fn.slots.items;
  long : length l.engines.items ≡ l._count;
  room : vec_capacity l.engines ≡ vec_capacity l.fn.engines;
}
