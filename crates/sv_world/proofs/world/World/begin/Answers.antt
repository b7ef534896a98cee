use Rattle.sv_world.proofs.Prelude.{◌≡◌, arith, size_of}
use Rattle.sv_world.proofs.BegunLemmas.{all_engines, are_of}
use Rattle.sv_world.proofs.world.World.begin.Goals as goal

pub take_engines-requires-clause-all : goal.take_engines-requires-clause-all
take_engines-requires-clause-all g c = all_engines g.E.Engine.valid c.start_all.new.self.slots.items c.start_all.ensures.world.slots

pub take_engines-requires-clause-room : goal.take_engines-requires-clause-room
take_engines-requires-clause-room g c =
    let same : size_of c.start_all.new.self ≡ size_of c.args.self.now = c.start_all.ensures.size in
    omega (arith, same, c.requires.nodes, c.requires.room)

pub returns-in-Err-clause-back : goal.returns-in-Err-clause-back
returns-in-Err-clause-back g c =
    let s = c.start_all.ensures in
    are_of g.E.Engine.meaning g.E.Engine.heard g.E.Engine.valid c.args.self.now c.start_all.new.self c.take_engines.new.engines.items s.size s.meanings s.heard s.world.slots c.take_engines.ensures
