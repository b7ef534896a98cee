use Rattle.sv_world.proofs.Prelude.{run, nothing_happened}
use Rattle.sv_world.proofs.HeadlineLemmas.{parts}
use Rattle.sv_world.proofs.Runs.{map_has, map_only}
use Rattle.sv_world.proofs.laws.order.Goals as goal

pub returns-clause-lawful : goal.returns-clause-lawful
returns-clause-lawful k m touches c es = (parts m touches c es).inv.sane.lawful

pub returns-clause-has : goal.returns-clause-has
returns-clause-has k m touches c es = map_has m c (run m c nothing_happened es) (parts m touches c es).inv

pub returns-clause-only : goal.returns-clause-only
returns-clause-only k m touches c es = map_only m c (run m c nothing_happened es) (parts m touches c es).inv
