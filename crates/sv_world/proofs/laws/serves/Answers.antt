use Rattle.sv_world.proofs.Prelude.{run, nothing_happened}
use Rattle.sv_world.proofs.PromiseLemmas.{both}
use Rattle.sv_world.proofs.WindowLemmas.{is_served, is_served_in_two, is_served_at_last, is_denied_in_two}
use Rattle.sv_world.proofs.laws.serves.Goals as goal

pub returns-clause-three : goal.returns-clause-three
returns-clause-three k m touches c events = is_served m touches c (run m c nothing_happened events) (both m touches c events)

pub returns-clause-two : goal.returns-clause-two
returns-clause-two k m touches c events = is_served_in_two m touches c (run m c nothing_happened events) (both m touches c events)

pub returns-clause-at_last : goal.returns-clause-at_last
returns-clause-at_last k m touches c events = is_served_at_last m touches c (run m c nothing_happened events) (both m touches c events)

pub returns-clause-denied : goal.returns-clause-denied
returns-clause-denied k m touches c events = is_denied_in_two m touches c (run m c nothing_happened events) (both m touches c events)
