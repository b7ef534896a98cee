use Rattle.sv_container.proofs.Prelude.{◌≡◌, ◌≤◌, ◌+◌, ◌++◌, length, take, map, string_bytes, IsPermutation, label, labels_of}
use Rattle.sv_container.proofs.arrange.arrange_context.Given as goal

abbrev pub invariant-loop-count : goal.invariant-loop-count
invariant-loop-count g l = record {
  same : IsPermutation l.fn.objects.items l.objects.items;
  within : l.from + l.count ≤ length l.objects.items;
  named : labels_of (take (l.from + l.count) l.objects.items) ≡ labels_of (take l.from l.fn.objects.items) ++ map (label l.context) (take l.count (map string_bytes l.names));
}
