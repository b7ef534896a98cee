use Rattle.sv_core.proofs.Prelude.{Some, None, [], ◌∷◌, ◌++◌, ap, ◌∙◌}
use Rattle.sv_core.specs.declared.decision.Waiting.TheVariants.{Stays}
use Rattle.sv_core.proofs.decision.Decision.recorded.Goals as goal

pub returns : goal.returns
returns c = λ i. record {
  entry = Some c.args.entry;
  commit = None;
  told = (c.in_ok-push.ensures.ok ∙ ap (λ l. l ++ c.args.mark ∷ []) c.new-told.ensures) i;
  outputs = c.from_vec.ensures i;
  waiting = Stays;
}
