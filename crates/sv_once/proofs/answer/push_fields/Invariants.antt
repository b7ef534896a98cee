use Rattle.std.proofs.Common.{◌≡◌, ◌++◌, map, take, drop, true}
use Rattle.std.specs.List.{flat_map, list_all}
use Rattle.sv_once.specs.Answer as spec
use Rattle.sv_once.proofs.answer.push_fields.Given as goal

-- the bytes of the fields so far; those that are left are fields
abbrev pub invariant-loop-field : goal.invariant-loop-field
invariant-loop-field l = record {
  written : l.out.items ≡ l.fn.out.items ++ flat_map spec.field_bytes (map spec.shown_field (take l.field-index l.fields));
  left : list_all spec.is_field (map spec.shown_field (drop l.field-index l.fields)) ≡ true;
}
