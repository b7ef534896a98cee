use Rattle.sv_world.proofs.HeadlineLemmas.{kept, replays}
use Rattle.sv_world.proofs.Wider.{widest}
use Rattle.sv_world.proofs.laws.journals.Goals as goal

pub returns-clause-replay : goal.returns-clause-replay
returns-clause-replay k m touches c es = replays m touches c es

pub returns-clause-fit : goal.returns-clause-fit
returns-clause-fit k m touches c wide within es = (kept m touches c wide within es).fits

pub returns-clause-widest : goal.returns-clause-widest
returns-clause-widest k wide rules many = widest wide rules many
