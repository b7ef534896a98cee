use Rattle.sv_mapping.proofs.Prelude.{◌∙◌, ◌++◌, ◌<◌, Some, length, sym, ap, arith, length-append, get, IsPlaceOf, IsGapFor}
use Rattle.sv_mapping.proofs.LengthLemmas.{get_long}
use Rattle.sv_mapping.proofs.TableLemmas.{get-place, get-gap}
use Rattle.sv_mapping.proofs.mappings.Mappings.servlet_of.Goals as goal

pub returns-in-Ok : goal.returns-in-Ok
returns-in-Ok c =
    let entries = c.self.inside.entries.items in
    let text = c.args.front.now ++ c.args.back.now in
    let at : IsPlaceOf entries text c.in-Ok.place = rw c.deref.ensures.value at c.in-Ok.ensures.found in
    ap (λ e. Some e.1) c.index.ensures ∙ sym (get-place entries c.self.invariant.0 text c.in-Ok.place c.index.result.now at) ∙ ap (λ t. get t text) c.self.view_is

pub returns-in-Err : goal.returns-in-Err
returns-in-Err c =
    let entries = c.self.inside.entries.items in
    let text = c.args.front.now ++ c.args.back.now in
    let gap : IsGapFor entries text c.in-Err.field-0 = rw c.deref.ensures.value at c.in-Err.ensures.absent in
    sym (get-gap entries c.self.invariant.0 text c.in-Err.field-0 gap) ∙ ap (λ t. get t text) c.self.view_is

pub returns-then-front-gt-MAX_PATTERN_BYTES : goal.returns-then-front-gt-MAX_PATTERN_BYTES
returns-then-front-gt-MAX_PATTERN_BYTES c =
    let entries = c.self.inside.entries.items in
    let text = c.args.front.now ++ c.args.back.now in
    let long : 256 < length text = rw length-append (omega arith) in
    sym (ap (λ table. get table text) (sym c.self.view_is) ∙ get_long entries c.self.invariant.0 c.self.invariant.2 text long)
