use Rattle.sv_world.specs.Worlds.{IsWorld}
use Rattle.test_cluster_rows.proofs.worlds.fill.Given as goal

-- the world may be called
abbrev pub invariant-loop-before : goal.invariant-loop-before
invariant-loop-before g l = IsWorld g.E.Engine.valid l.world
