use Rattle.sv_world.proofs.WaitersLemmas.{ticks_ask, wants_are_answered, pokes_serve}
use Rattle.sv_world.proofs.laws.waiters.Goals as goal

pub returns-clause-ask : goal.returns-clause-ask
returns-clause-ask k m c w = ticks_ask m c w

pub returns-clause-answered : goal.returns-clause-answered
returns-clause-answered k m c w = wants_are_answered m c w

pub returns-clause-poked : goal.returns-clause-poked
returns-clause-poked k m c w = pokes_serve m c w
