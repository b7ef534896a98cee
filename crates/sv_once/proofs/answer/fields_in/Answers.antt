use Rattle.std.proofs.Common.{◌≡◌, ◌∙◌, ◌<◌, ◌++◌, ◌-◌, ℕ, List, ap, arith, map, sym}
use Rattle.std.specs.Borrow.{Bor}
use Rattle.std.proofs.lemmas.List.{map-append}
use Rattle.sv_once.proofs.AnswerLemmas.{none_more, none_past, one_more, past_one}
use Rattle.sv_once.specs.Answer as spec
use Rattle.sv_once.proofs.answer.fields_in.Goals as goal

abbrev seen : Bor (List ℕ) × Bor (List ℕ) → List ℕ × List ℕ
seen p = (p.0.now, p.1.now)

pub loop-left-preserved : goal.loop-left-preserved
loop-left-preserved c =
    let some : 0 < c.loop-left.left = omega arith in
    record {
      fields =
          ap (λ ps. map seen ps ++ spec.fields_in (c.loop-left.left - 1) c.cut_long.result.1.now) c.in_ok-push.ensures.items
          ∙ ap (λ (ps : List (List ℕ × List ℕ)). ps ++ spec.fields_in (c.loop-left.left - 1) c.cut_long.result.1.now) (map-append seen c.loop-left.fields.items _)
          ∙ one_more _ c.loop-left.left c.loop-left.rest.now _ _ _ _ some c.cut_short.ensures.first c.cut_short.ensures.rest c.cut_long.ensures.first c.cut_long.ensures.rest
          ∙ c.loop-left.invariant.fields;
      rest = past_one c.loop-left.left c.loop-left.rest.now _ _ some c.cut_short.ensures.rest c.cut_long.ensures.rest ∙ c.loop-left.invariant.rest;
    }

pub returns-clause-fields : goal.returns-clause-fields
returns-clause-fields c =
    let none : c.loop-left.left ≡ 0 = omega arith in
    sym (none_more _ c.loop-left.left c.loop-left.rest.now none) ∙ c.loop-left.invariant.fields

pub returns-clause-rest : goal.returns-clause-rest
returns-clause-rest c =
    let none : c.loop-left.left ≡ 0 = omega arith in
    sym (none_past c.loop-left.left c.loop-left.rest.now none) ∙ c.loop-left.invariant.rest
