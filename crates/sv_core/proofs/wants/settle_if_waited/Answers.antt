use Rattle.sv_core.proofs.Prelude.{sym, ◌∙◌}
use Rattle.sv_core.proofs.WantLemmas.{nobody_waits}
use Rattle.sv_core.proofs.wants.settle_if_waited.Goals as goal

pub returns-else-is_waited-clause-items : goal.returns-else-is_waited-clause-items
returns-else-is_waited-clause-items c = λ test are.
    are ∙ nobody_waits c.args.key c.args.is_settled test c.args.all.now c.args.waited.now c.requires.keyed (sym c.is_waited.ensures ∙ c.if-is_waited.false)
