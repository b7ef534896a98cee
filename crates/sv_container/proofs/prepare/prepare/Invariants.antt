use Rattle.sv_container.proofs.Prelude.{◌≡◌, ◌++◌, All, length, map, into_iter_items}
use Rattle.std.specs.Vec.Iter.{into_iter_len}
use Rattle.sv_container.specs.Deployment as spec
use Rattle.sv_container.proofs.prepare.prepare.Given as goal

abbrev pub invariant-loop-context : goal.invariant-loop-context
invariant-loop-context g l = record {
  frames : map spec.frame_of l.applications.items ++ spec.frames_from (length l.applications.items) (into_iter_items l.context-iterator) ≡ spec.frames_from 0 l.fn.contexts.items;
  empty : All spec.IsEmpty l.applications.items;
  long : into_iter_len l.context-iterator ≡ length (into_iter_items l.context-iterator);
}
