use Rattle.sv_container.proofs.OnceLemmas.{answers_again, is_joined, leaves_what_counts}
use Rattle.sv_container.proofs.OrderLemmas.{is_answered_in_order, is_in_order}
use Rattle.sv_container.proofs.laws.each_takes_effect_once.Goals as goal

pub returns-clause-again : goal.returns-clause-again
returns-clause-again c = answers_again

pub returns-clause-in_all : goal.returns-clause-in_all
returns-clause-in_all c = leaves_what_counts

pub returns-clause-joined : goal.returns-clause-joined
returns-clause-joined c = is_joined

pub returns-clause-in_order : goal.returns-clause-in_order
returns-clause-in_order c = is_in_order

pub returns-clause-answered : goal.returns-clause-answered
returns-clause-answered c = is_answered_in_order
