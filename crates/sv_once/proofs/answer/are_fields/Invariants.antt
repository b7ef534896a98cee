use Rattle.std.proofs.Common.{◌≡◌, map, drop}
use Rattle.std.specs.List.{list_all}
use Rattle.sv_once.specs.Answer as spec
use Rattle.sv_once.proofs.answer.are_fields.Given as goal

-- it hangs on the fields that are left
abbrev pub invariant-loop-field : goal.invariant-loop-field
invariant-loop-field l =
    list_all spec.is_field (map spec.shown_field (drop l.field-index l.fields)) ≡ list_all spec.is_field (map spec.shown_field l.fields)
