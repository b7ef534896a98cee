use Rattle.sv_container.proofs.Prelude.{◌≡◌, ◌≤◌, ◌++◌, length, take, drop, map, IsPermutation, declared_from, labels_of, names_of}
use Rattle.sv_container.proofs.arrange.arrange_kind.Given as goal

abbrev pub invariant-loop-number : goal.invariant-loop-number
invariant-loop-number g l = record {
  same : IsPermutation l.fn.objects.items l.objects.items;
  within : l.at ≤ length l.objects.items;
  named : labels_of (take l.at l.objects.items) ++ declared_from l.number (drop l.number (map (names_of l.kind) l.contexts)) ≡ declared_from 0 (map (names_of l.kind) l.contexts);
}
