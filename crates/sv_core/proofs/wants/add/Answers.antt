use Rattle.sv_core.proofs.Prelude.{IfOk, IfErr, subst, ◌∙◌}
use Rattle.std.specs.List as list
use Rattle.sv_core.proofs.PlaceLemmas.{not_refused}
use Rattle.sv_core.proofs.WantLemmas.{IsThere, IsMissing, searched}
use Rattle.sv_core.proofs.wants.add.Goals as goal

pub returns-in-Ok-clause-items : goal.returns-in-Ok-clause-items
returns-in-Ok-clause-items c = λ before was behind is.
    let ws = c.args.wants.now.items in
    let there : IsThere before c.args.want behind ws c.in-Ok.field-0 = subst (λ r. IfOk r (IsThere before c.args.want behind ws)) c.in-Ok.is
    (searched before c.args.want was behind ws c.deref.result.now is c.deref.ensures.value c.binary_search.result c.binary_search.ensures.bound c.binary_search.ensures.position).found in
    there.stays

pub returns-in-Err-clause-items : goal.returns-in-Err-clause-items
returns-in-Err-clause-items c = λ before was behind is.
    let ws = c.args.wants.now.items in
    let missing : IsMissing before c.args.want behind ws c.in-Err.at = subst (λ r. IfErr r (IsMissing before c.args.want behind ws)) c.in-Err.is
    (searched before c.args.want was behind ws c.deref.result.now is c.deref.ensures.value c.binary_search.result c.binary_search.ensures.bound c.binary_search.ensures.position).absent in
    not_refused c.insert.result (list.insert ws c.in-Err.at c.args.want) ws c.insert.new.self.items c.insert.ensures.items (c.insert.ensures.succeeds c.requires) ∙ missing.added
