use Rattle.sv_world.proofs.Prelude.{[]}
use Rattle.sv_world.proofs.BegunLemmas.{made_ran}
use Rattle.sv_world.proofs.world.World.at_rest.Goals as goal

pub returns-in-Ok-clause-ran : goal.returns-in-Ok-clause-ran
returns-in-Ok-clause-ran g c = λ m alike.
    made_ran g.E.Engine.meaning g.E.Engine.heard g.E.Engine.valid g.met.E.Engine.untouched m c.args.engines.items c.args.rules [] c.filled_at_rest.result c.requires.some c.requires.valid c.filled_at_rest.ensures.made alike
