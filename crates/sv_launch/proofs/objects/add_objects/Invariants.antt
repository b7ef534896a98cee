use Rattle.std.proofs.Common.{◌≡◌, ◌++◌, All, map, take, string_bytes}
use Rattle.sv_launch.specs.Objects.{object_data, looked_up}
use Rattle.sv_launch.proofs.objects.add_objects.Given as goal

abbrev pub invariant-loop-name : goal.invariant-loop-name
invariant-loop-name g l = record {
  new : All (λ n. g.K.NamedObjects.is_new n.object) l.objects.items;
  objects : map (object_data g.K.NamedObjects.meant) l.objects.items
      ≡ map (object_data g.K.NamedObjects.meant) l.fn.objects.items ++ looked_up (g.K.NamedObjects.named l.kind) l.context (map string_bytes (take l.name-index l.names));
}
