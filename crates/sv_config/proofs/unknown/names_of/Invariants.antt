use Rattle.sv_config.proofs.Prelude.{◌≡◌, map, bytes_eq, take, slice_cmp, list_any, Text}
use Rattle.std.specs.Ordering.{nat_cmp}
use Rattle.std.specs.BTreeSet.{contains_by}
use Rattle.sv_config.proofs.unknown.names_of.Given as goal

abbrev pub invariant-loop-name : goal.invariant-loop-name
invariant-loop-name l =
    (text : Text) → contains_by (λ name. slice_cmp nat_cmp text name.now) l.set ≡ list_any (λ name. bytes_eq name text) (map (λ name. name.now) (take l.name-index l.names))
