use Rattle.sv_world.proofs.world.World.new.Goals as goal

pub returns-clause-ran : goal.returns-clause-ran
returns-clause-ran g c = rw c.of.ensures at c.with.ensures.ran

pub returns-clause-fit : goal.returns-clause-fit
returns-clause-fit g c = rw c.of.ensures at c.with.ensures.fit
