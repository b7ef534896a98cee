use Rattle.std.proofs.Common.{refl, ◌∙◌, sym}
use Rattle.sv_solo.proofs.ServeLemmas.{said_now, said_unparked}
use Rattle.sv_solo.proofs.answer.say.Goals as goal

pub returns-clause-stays : goal.returns-clause-stays
returns-clause-stays g c = record {
  held = c.answer.ensures.held;
  single = c.answer.ensures.single;
  waiting = c.answer.ensures.waiting ∙ sym (said_unparked _ _ _ _ _ _ _ refl (said_now _ _ _ _ _ _ _ c.requires.was_open c.answer.ensures.answered));
}

pub returns-clause-said : goal.returns-clause-said
returns-clause-said g c = said_now _ _ _ _ _ _ _ c.requires.was_open c.answer.ensures.answered
