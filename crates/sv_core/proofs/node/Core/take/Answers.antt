use Rattle.sv_core.proofs.Prelude.{sym, ◌∙◌}
use Rattle.sv_core.proofs.CoreLemmas.{tells}
use Rattle.sv_core.proofs.node.Core.take.Goals as goal

pub returns-clause-told : goal.returns-clause-told
returns-clause-told g c = c.into_parts-entry.ensures.told ∙ sym (tells c.args.decision.commit c.args.decision.told)
