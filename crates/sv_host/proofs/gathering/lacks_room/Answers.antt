use Rattle.sv_host.proofs.StoryLemmas.{carry_continue}
use Rattle.sv_host.proofs.gathering.lacks_room.Goals as goal

-- one may have given way
pub returns-then-make_room-clause-carried : goal.returns-then-make_room-clause-carried
returns-then-make_room-clause-carried c =
    carry_continue (record c.args.server.now.connections { report = c.note.new.self }) c.make_room.new.connections c.make_room.ensures

pub returns-else-make_room-clause-carried : goal.returns-else-make_room-clause-carried
returns-else-make_room-clause-carried c =
    carry_continue (record c.args.server.now.connections { report = c.note.new.self }) c.make_room.new.connections c.make_room.ensures
