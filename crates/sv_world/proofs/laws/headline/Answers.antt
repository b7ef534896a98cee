use Rattle.sv_world.proofs.HeadlineLemmas.{headline}
use Rattle.sv_world.proofs.laws.headline.Goals as goal

pub returns : goal.returns
returns k m touches c es knows = headline m touches c es knows
