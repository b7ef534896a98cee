use Rattle.sv_world.proofs.Prelude.{run, nothing_happened}
use Rattle.sv_world.proofs.HeadlineLemmas.{parts, at_most_one}
use Rattle.sv_world.proofs.Runs.{agree}
use Rattle.sv_world.proofs.laws.lives.Goals as goal

pub returns-clause-one : goal.returns-clause-one
returns-clause-one k m touches c es = at_most_one m c (run m c nothing_happened es) (parts m touches c es).inv

pub returns-clause-agree : goal.returns-clause-agree
returns-clause-agree k m touches c es = agree m c (run m c nothing_happened es) (parts m touches c es).inv
