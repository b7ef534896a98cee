use Rattle.sv_world.proofs.Prelude.{◌∙◌, ◌++◌, ◌∷◌, [], ap, refl}
use Rattle.sv_world.proofs.HappenedLemmas.{acted_world, acted_happened, acted_silent}
use Rattle.sv_world.proofs.world.World.happen.Goals as goal

pub returns-clause-world : goal.returns-clause-world
returns-clause-world g c = acted_world g.E.Engine.valid c.act.new.self _ refl c.act.ensures.world refl

pub returns-clause-happened : goal.returns-clause-happened
returns-clause-happened g c =
    acted_happened g.E.Engine.meaning g.E.Engine.heard g.E.Engine.valid c.args.self.now c.act.new.self _ c.args.event c.in_ok-effect.effect c.requires c.in_ok-effect.ensures.acted refl refl
    (c.push_reserved.ensures.items ∙ ap (λ l. c.act.new.self.trace.items ++ l ∷ []) c.new.ensures)

pub returns-clause-silent : goal.returns-clause-silent
returns-clause-silent g c start =
    acted_silent g.E.Engine.meaning g.E.Engine.heard g.E.Engine.valid c.args.self.now c.act.new.self c.args.event c.in_ok-effect.effect c.requires c.in_ok-effect.ensures.acted start
