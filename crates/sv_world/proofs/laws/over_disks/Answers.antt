use Rattle.sv_world.proofs.DiskLemmas.{are_world}
use Rattle.sv_world.proofs.laws.over_disks.Goals as goal

pub returns : goal.returns
returns k m touches c calls all = are_world m touches c calls all
