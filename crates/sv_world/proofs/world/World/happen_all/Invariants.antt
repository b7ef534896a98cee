use Rattle.std.proofs.Common.{take}
use Rattle.sv_world.proofs.Prelude.{IsWorld, HaveHappened}
use Rattle.sv_world.proofs.world.World.happen_all.Given as goal

abbrev pub invariant-loop-place : goal.invariant-loop-place
invariant-loop-place g l = record {
  world : IsWorld g.E.Engine.valid l.self;
  happened : HaveHappened g.E.Engine.meaning g.E.Engine.heard l.fn.self l.self (take l.place l.events);
}
