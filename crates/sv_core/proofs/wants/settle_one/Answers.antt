use Rattle.sv_core.proofs.Prelude.{cond, ap, sym, ◌∙◌, around}
use Rattle.sv_core.proofs.wants.settle_one.Goals as goal

pub returns-then-is_settled-clause-items : goal.returns-then-is_settled-clause-items
returns-then-is_settled-clause-items c = λ before was behind is.
    c.add.ensures.items before was behind is
    ∙ sym (ap (λ b. around before c.args.parked.now.want (cond b c.args.is_settled was) behind) (sym c.is_same.ensures ∙ c.if-not-is_same.false)
    ∙ ap (λ b. around before c.args.parked.now.want b behind) c.if-is_settled.true)

pub returns-else-is_settled-clause-items : goal.returns-else-is_settled-clause-items
returns-else-is_settled-clause-items c = λ before was behind is.
    c.forget.ensures.items before was behind is
    ∙ sym (ap (λ b. around before c.args.parked.now.want (cond b c.args.is_settled was) behind) (sym c.is_same.ensures ∙ c.if-not-is_same.false)
    ∙ ap (λ b. around before c.args.parked.now.want b behind) c.if-is_settled.false)

pub returns-then-not-is_same-clause-items : goal.returns-then-not-is_same-clause-items
returns-then-not-is_same-clause-items c = λ before was behind is.
    is.are ∙ sym (ap (λ b. around before c.args.parked.now.want (cond b c.args.is_settled was) behind) (sym c.is_same.ensures ∙ c.if-not-is_same.true))
