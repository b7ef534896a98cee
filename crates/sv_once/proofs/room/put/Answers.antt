use Rattle.sv_once.specs.Room.{memory_name}
use Rattle.sv_once.proofs.RoomLemmas.{put_small}
use Rattle.sv_once.proofs.room.put.Goals as goal

pub insert-requires : goal.insert-requires
unfolding memory_name
insert-requires c = put_small c.args.memory c.in_ok-name.name c.args.session.now c.requires c.in_ok-name.ensures
