use Rattle.std.proofs.Common.{◌≡◌, map, take, drop, true}
use Rattle.std.specs.List.{list_all}
use Rattle.sv_once.specs.Answer as spec
use Rattle.sv_once.proofs.answer.fields_of.Given as goal

-- the fields so far; those that are left are fields
abbrev pub invariant-loop-name : goal.invariant-loop-name
invariant-loop-name l = record {
  made : l.fields.items ≡ map spec.field_of (map (λ p. (p.0.now, p.1.now)) (take l.name-index l.pairs));
  left : list_all spec.is_field (map (λ p. (p.0.now, p.1.now)) (drop l.name-index l.pairs)) ≡ true;
}
