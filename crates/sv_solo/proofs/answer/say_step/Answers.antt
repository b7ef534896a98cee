use Rattle.sv_solo.proofs.answer.say_step.Goals as goal

pub returns-in-Err-clause-follows : goal.returns-in-Err-clause-follows
returns-in-Err-clause-follows g c = rw c.in-Err.is (c.say_step_fault.ensures.follows c.args.token)
