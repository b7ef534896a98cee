use Rattle.sv_world.proofs.PromiseLemmas.{progress}
use Rattle.sv_world.proofs.laws.progress.Goals as goal

pub returns : goal.returns
returns k m touches c events = progress m touches c events
