use Rattle.sv_mapping.proofs.Prelude.{◌≡◌, ◌≤◌, ◌∙◌, ◌++◌, [], length, refl, append-nil, arith, insert, IsPlaceOf, IsGapFor}
use Rattle.std.proofs.lemmas.List.Edits.{length-insert}
use Rattle.std.proofs.lemmas.Result.{err_from_is_err_and}
use Rattle.sv_mapping.proofs.TableLemmas.{insert_sorted, from_sorted-insert, refusal-place, refusal-full, refusal-none}
use Rattle.sv_mapping.proofs.LengthLemmas.{insert_short}
use Rattle.sv_mapping.proofs.mappings.Mappings.add.Goals as goal

pub returns-in-Ok-clause-fault : goal.returns-in-Ok-clause-fault
returns-in-Ok-clause-fault c =
    let entries = c.self.inside.entries.items in
    let text : c.as_str.result.now ++ [] ≡ c.args.pattern = append-nil _ ∙ c.as_str.ensures.text in
    let at : IsPlaceOf entries c.args.pattern c.in-Ok.field-0 = rw (c.deref.ensures.value, text) at c.in-Ok.ensures.found in
    let refused = refusal-place entries c.self.invariant.0 c.args.pattern c.in-Ok.field-0 (c.args.pattern, 0) at in
    rw (← c.self.view_is, refused) refl

pub returns-in-Err-clause-fault : goal.returns-in-Err-clause-fault
returns-in-Err-clause-fault c =
    let entries = c.self.inside.entries.items in
    let text : c.as_str.result.now ++ [] ≡ c.args.pattern = append-nil _ ∙ c.as_str.ensures.text in
    let gap : IsGapFor entries c.args.pattern c.in-Err.field-0 = rw (c.deref.ensures.value, text) at c.in-Err.ensures.absent in
    let refused = refusal-full entries c.self.invariant.0 c.args.pattern c.in-Err.field-0 gap (omega arith) in
    rw (← c.self.view_is, refused) refl

pub returns-in_err-insert-in-Err-2-clause-fault : goal.returns-in_err-insert-in-Err-2-clause-fault
returns-in_err-insert-in-Err-2-clause-fault c =
    let entries = c.self.inside.entries.items in
    let text : c.as_str.result.now ++ [] ≡ c.args.pattern = append-nil _ ∙ c.as_str.ensures.text in
    let gap : IsGapFor entries c.args.pattern c.in-Err-2.place = rw (c.deref.ensures.value, text) at c.in-Err-2.ensures.absent in
    let refused = refusal-none entries c.self.invariant.0 c.args.pattern c.in-Err-2.place gap (omega arith) in
    let p = err_from_is_err_and c.from_residual.result c.from_residual.ensures.1 in
    rw (p.1, p.2, ← c.self.view_is, refused) refl

pub invariant_of-self-in-Err-2 : goal.invariant_of-self-in-Err-2
invariant_of-self-in-Err-2 c =
    let entries = c.self.inside.entries.items in
    let text : c.as_str.result.now ++ [] ≡ c.args.pattern = append-nil _ ∙ c.as_str.ensures.text in
    let gap : IsGapFor entries c.args.pattern c.in-Err.field-0 = rw (c.deref.ensures.value, text) at c.in-Err.ensures.absent in
    let longer = length-insert entries c.in-Err.field-0 (c.args.pattern, c.args.servlet) gap.within in
    let short : length (insert entries c.in-Err.field-0 (c.args.pattern, c.args.servlet)) ≤ 256 = omega arith in
    rw c.in_ok-insert-in-Err-2.ensures.items (insert_sorted entries c.self.invariant.0 c.args.pattern c.args.servlet c.in-Err.field-0 gap, short, insert_short entries c.in-Err.field-0 c.args.pattern c.args.servlet c.self.invariant.2 c.as_str.ensures.good)

pub returns-in_ok-insert-in-Err-2-clause-ok : goal.returns-in_ok-insert-in-Err-2-clause-ok
returns-in_ok-insert-in-Err-2-clause-ok c =
    let entries = c.self.inside.entries.items in
    let text : c.as_str.result.now ++ [] ≡ c.args.pattern = append-nil _ ∙ c.as_str.ensures.text in
    let gap : IsGapFor entries c.args.pattern c.in-Err.field-0 = rw (c.deref.ensures.value, text) at c.in-Err.ensures.absent in
    let none = refusal-none entries c.self.invariant.0 c.args.pattern c.in-Err.field-0 gap (omega arith) in
    let inserted = from_sorted-insert entries c.self.invariant.0 c.args.pattern c.args.servlet c.in-Err.field-0 gap in
    rw (c.in_ok-insert-in-Err-2.ensures.items, ← c.self.view_is) (none, inserted)
