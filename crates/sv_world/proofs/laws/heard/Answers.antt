use Rattle.sv_world.proofs.Prelude.{run, nothing_happened}
use Rattle.sv_world.proofs.HeadlineLemmas.{parts, is_told}
use Rattle.sv_world.proofs.laws.heard.Goals as goal

pub returns : goal.returns
returns k m touches c es = is_told m c (run m c nothing_happened es) (parts m touches c es)
