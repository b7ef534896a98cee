use Rattle.sv_core.proofs.Prelude.{sym, subst, ◌∙◌, IsFound, IsGap}
use Rattle.sv_core.proofs.places.remove.Goals as goal

pub returns-in-Ok-clause-items : goal.returns-in-Ok-clause-items
returns-in-Ok-clause-items c =
    let found : IsFound c.args.key c.args.places.now.items c.in-Ok.at = subst (λ l. IsFound c.args.key l c.in-Ok.at) c.deref.ensures.value c.in-Ok.ensures.found in
    c.remove.ensures.items ∙ sym found.erased

pub returns-in-Err-clause-items : goal.returns-in-Err-clause-items
returns-in-Err-clause-items c =
    let gap : IsGap c.args.key c.args.places.now.items c.in-Err.field-0 = subst (λ l. IsGap c.args.key l c.in-Err.field-0) c.deref.ensures.value c.in-Err.ensures.absent in
    sym gap.erased
