use Rattle.sv_control.proofs.RoomLemmas.{total_known}
use Rattle.sv_control.proofs.laws.census_has_each_key.Goals as goal

pub returns : goal.returns
returns c = total_known
