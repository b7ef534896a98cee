use Rattle.sv_core.proofs.Prelude.{IfOk, IfErr, subst, ◌∙◌}
use Rattle.sv_core.proofs.WantLemmas.{IsThere, IsMissing, searched}
use Rattle.sv_core.proofs.wants.forget.Goals as goal

pub returns-in-Ok-clause-items : goal.returns-in-Ok-clause-items
returns-in-Ok-clause-items c = λ before was behind is.
    let ws = c.args.wants.now.items in
    let there : IsThere before c.args.want behind ws c.in-Ok.at = subst (λ r. IfOk r (IsThere before c.args.want behind ws)) c.in-Ok.is
    (searched before c.args.want was behind ws c.deref.result.now is c.deref.ensures.value c.binary_search.result c.binary_search.ensures.bound c.binary_search.ensures.position).found in
    c.remove.ensures.items ∙ there.removed

pub returns-in-Err-clause-items : goal.returns-in-Err-clause-items
returns-in-Err-clause-items c = λ before was behind is.
    let ws = c.args.wants.now.items in
    let missing : IsMissing before c.args.want behind ws c.in-Err.field-0 = subst (λ r. IfErr r (IsMissing before c.args.want behind ws)) c.in-Err.is
    (searched before c.args.want was behind ws c.deref.result.now is c.deref.ensures.value c.binary_search.result c.binary_search.ensures.bound c.binary_search.ensures.position).absent in
    missing.stays
