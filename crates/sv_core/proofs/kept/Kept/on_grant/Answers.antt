use Rattle.sv_core.proofs.Prelude.{rules}
use Rattle.sv_core.proofs.kept.Kept.on_grant.Goals as goal

pub returns-then-lacks_room : goal.returns-then-lacks_room
returns-then-lacks_room c = search rules

pub returns : goal.returns
returns c = search rules
