use Rattle.sv_container.proofs.Prelude.{◌≡◌, ◌≤◌, take, drop, map, length, vec_capacity, into_iter_items, hosted_of}
use Rattle.sv_container.proofs.assemble.fill.Given as goal

abbrev pub invariant-loop-count : goal.invariant-loop-count
invariant-loop-count g l = record {
  filled : l.room.items ≡ map hosted_of (take l.count (into_iter_items l.fn.objects));
  rest : into_iter_items l.objects ≡ drop l.count (into_iter_items l.fn.objects);
  room : vec_capacity l.fn.room ≤ vec_capacity l.room;
  long : length l.room.items ≡ l.count;
}
