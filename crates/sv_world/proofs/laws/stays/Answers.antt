use Rattle.sv_world.proofs.Prelude.{run, nothing_happened}
use Rattle.sv_world.proofs.EpochLemmas.{epochs_rise, stays_at_hand}
use Rattle.sv_world.proofs.PromiseLemmas.{both}
use Rattle.sv_world.proofs.laws.stays.Goals as goal

pub returns-clause-epochs : goal.returns-clause-epochs
returns-clause-epochs k m touches c events = epochs_rise m touches c (run m c nothing_happened events) (both m touches c events).inv

pub returns-clause-at_hand : goal.returns-clause-at_hand
returns-clause-at_hand k m touches c events = stays_at_hand m touches c (run m c nothing_happened events) (both m touches c events).inv
