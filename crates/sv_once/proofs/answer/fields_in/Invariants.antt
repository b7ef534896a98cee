use Rattle.std.proofs.Common.{◌≡◌, ◌++◌, map}
use Rattle.sv_once.specs.Answer as spec
use Rattle.sv_once.proofs.answer.fields_in.Given as goal

-- the fields so far, and those that are left
abbrev pub invariant-loop-left : goal.invariant-loop-left
invariant-loop-left l = record {
  fields : map (λ p. (p.0.now, p.1.now)) l.fields.items ++ spec.fields_in l.left l.rest ≡ spec.fields_in l.fn.count l.fn.bytes;
  rest : spec.past_fields l.left l.rest ≡ spec.past_fields l.fn.count l.fn.bytes;
}

abbrev pub decreases-loop-left : goal.decreases-loop-left
decreases-loop-left l = l.left
