use Rattle.sv_solo.proofs.answer.say_output.Goals as goal

pub returns-in-Refuse-clause-follows : goal.returns-in-Refuse-clause-follows
returns-in-Refuse-clause-follows g c = rw c.in-Refuse.is c.say_refusal.ensures.said
