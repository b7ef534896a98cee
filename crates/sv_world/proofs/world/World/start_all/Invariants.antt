use Rattle.sv_world.proofs.Prelude.{◌≡◌, IsWorld, heard_of, HaveHappened, restarts}
use Rattle.sv_world.proofs.world.World.start_all.Given as goal

abbrev pub invariant-loop-node : goal.invariant-loop-node
invariant-loop-node g l = record {
  world : IsWorld g.E.Engine.valid l.self;
  happened : HaveHappened g.E.Engine.meaning g.E.Engine.heard l.fn.self l.self (restarts l.node);
  heard : heard_of g.E.Engine.heard l.self ≡ heard_of g.E.Engine.heard l.fn.self;
}
