use Rattle.sv_world.specs.Worlds.{IsWorld}
use Rattle.test_cluster_rows.proofs.worlds.happen_all.Given as goal

-- the world may be called
abbrev pub invariant-loop-line : goal.invariant-loop-line
invariant-loop-line g l = IsWorld g.E.Engine.valid l.world
