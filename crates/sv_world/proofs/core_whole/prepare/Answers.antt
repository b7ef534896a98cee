use Rattle.sv_world.proofs.Prelude.{rules}
use Rattle.sv_world.proofs.core_whole.prepare.Goals as goal

pub returns-in_err-make_room-clause-packets : goal.returns-in_err-make_room-clause-packets
returns-in_err-make_room-clause-packets c = search rules

pub returns-clause-packets : goal.returns-clause-packets
returns-clause-packets c = search rules

pub returns-clause-sends : goal.returns-clause-sends
returns-clause-sends c = search rules
