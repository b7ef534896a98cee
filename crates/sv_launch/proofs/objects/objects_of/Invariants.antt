use Rattle.std.proofs.Common.{◌≡◌, ◌++◌, All, map, drop}
use Rattle.sv_config.specs.Values.{context_data}
use Rattle.sv_launch.specs.Objects.{object_data, lookups}
use Rattle.sv_launch.proofs.objects.objects_of.Given as goal

abbrev pub invariant-loop-number : goal.invariant-loop-number
invariant-loop-number g l = record {
  new : All (λ n. g.K.NamedObjects.is_new n.object) l.objects.items;
  objects : map (object_data g.K.NamedObjects.meant) l.objects.items ++ lookups (g.K.NamedObjects.named l.kind) g.K.NamedObjects.names_in l.number (map context_data (drop l.number l.contexts))
      ≡ lookups (g.K.NamedObjects.named l.kind) g.K.NamedObjects.names_in 0 (map context_data l.contexts);
}
