use Rattle.std.proofs.Common.{◌∙◌, sym, subst}
use Rattle.std.specs.Prelude.{Bool}
use Rattle.sv_connection.specs.Speak.{IsStarved}
use Rattle.sv_solo.proofs.ServeLemmas.{starved_unparked}
use Rattle.sv_solo.proofs.answer.starve.Goals as goal

pub returns-clause-stays : goal.returns-clause-stays
returns-clause-stays g c = record {
  held = c.close.ensures.held ∙ c.refuse-outcome.ensures.held;
  single = c.close.ensures.single ∙ c.refuse-outcome.ensures.single;
  waiting = c.close.ensures.waiting ∙ sym (starved_unparked _ _ _ _ c.refuse-outcome.ensures.page);
}

pub returns-clause-starved : goal.returns-clause-starved
returns-clause-starved g c =
    subst (λ (b : Bool). IsStarved (g.W.Write.contents c.args.writer.now) (g.W.Write.contents c.refuse-outcome.new.writer) b c.refuse-outcome.result)
    (sym c.close.ensures.closed) c.refuse-outcome.ensures.page
