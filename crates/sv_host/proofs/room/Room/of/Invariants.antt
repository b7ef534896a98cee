use Rattle.sv_host.proofs.Prelude.{◌≡◌, drop}
use Rattle.sv_host.specs.Room.{counted_all, room_of}
use Rattle.sv_host.proofs.room.Room.of.Given as goal

-- those before were counted
abbrev pub invariant-loop-one : goal.invariant-loop-one
invariant-loop-one l = counted_all l.room (drop l.one-index l.parked) ≡ room_of l.parked
