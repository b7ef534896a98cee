use Rattle.sv_world.proofs.Prelude.{run, nothing_happened}
use Rattle.sv_world.proofs.PromiseLemmas.{both}
use Rattle.sv_world.proofs.RoundLemmas.{arrives_by_tick, arrives_in_a_round, is_done_in_two}
use Rattle.sv_world.proofs.ServedLemmas.{served_in_a_round}
use Rattle.sv_world.proofs.laws.arrives.Goals as goal

pub returns-clause-tick : goal.returns-clause-tick
returns-clause-tick k m touches c events = arrives_by_tick m touches c (run m c nothing_happened events) (both m touches c events).inv

pub returns-clause-round : goal.returns-clause-round
returns-clause-round k m touches c events = arrives_in_a_round m touches c (run m c nothing_happened events) (both m touches c events).inv

pub returns-clause-served : goal.returns-clause-served
returns-clause-served k m touches c events = served_in_a_round m touches c (run m c nothing_happened events) (both m touches c events).inv

pub returns-clause-done : goal.returns-clause-done
returns-clause-done k m touches c events = is_done_in_two m touches c (run m c nothing_happened events) (both m touches c events).inv
