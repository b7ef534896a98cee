use Rattle.std.proofs.Common.{length}
use Rattle.sv_world.proofs.Prelude.{restarts}
use Rattle.sv_world.proofs.BegunLemmas.{made_ran, made_headline, made_fit}
use Rattle.sv_world.proofs.NodeLemmas.{ok_then}
use Rattle.sv_world.proofs.world.World.with.Goals as goal

pub returns-in-Ok-clause-ran : goal.returns-in-Ok-clause-ran
returns-in-Ok-clause-ran g c =
    let engines = c.args.engines.items in
    ok_then c.filled.result _ _
    (λ w a m alike. made_ran g.E.Engine.meaning g.E.Engine.heard g.E.Engine.valid g.met.E.Engine.untouched m engines c.args.rules (restarts (length engines)) w c.requires.some c.requires.valid a alike) c.filled.ensures.started

pub returns-in-Ok-clause-headline : goal.returns-in-Ok-clause-headline
returns-in-Ok-clause-headline g c =
    let engines = c.args.engines.items in
    ok_then c.filled.result _ _
    (λ w a m alike. made_headline g.E.Engine.meaning g.E.Engine.heard g.E.Engine.valid g.met.E.Engine.untouched m engines c.args.rules (restarts (length engines)) w c.requires.some c.requires.valid a alike) c.filled.ensures.started

pub returns-in-Ok-clause-fit : goal.returns-in-Ok-clause-fit
returns-in-Ok-clause-fit g c =
    let engines = c.args.engines.items in
    ok_then c.filled.result _ _
    (λ w a m alike. made_fit g.E.Engine.meaning g.E.Engine.heard g.E.Engine.valid g.met.E.Engine.untouched m engines c.args.rules (restarts (length engines)) w c.requires.some c.requires.valid a alike) c.filled.ensures.started
