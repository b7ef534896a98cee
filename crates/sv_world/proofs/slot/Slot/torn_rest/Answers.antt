use Rattle.sv_world.proofs.Prelude.{node_at, engine_of, row_at}
use Rattle.sv_core.specs.Core.{setting_of}
use Rattle.sv_world.proofs.SlotLemmas.{ok_both, setting_at, row_is, rest_follows, rest_is}
use Rattle.sv_world.proofs.slot.Slot.torn_rest.Goals as goal

pub returns-clause-follows : goal.returns-clause-follows
returns-clause-follows g c =
    let old = c.args.self.now in
    ok_both c.torn_rest.result (λ r rest j.
    rest_follows g.E.Engine.meaning old c.in-Some.core c.in-Some.is (setting_at old c.in-Some.core c.in-Some.is g.E.Engine.valid c.requires.slot) c.args.kept
    (row_at (g.E.Engine.meaning (engine_of c.in-Some.core)) (setting_of c.in-Some.core) (node_at c.in-Some.core) c.args.moment c.args.input) j r rest)
    c.torn_rest.ensures.rest c.torn_rest.ensures.journaled

pub returns-clause-rest : goal.returns-clause-rest
returns-clause-rest g c =
    let old = c.args.self.now in
    ok_both c.torn_rest.result (λ r rest j m means.
    rest_is g.E.Engine.meaning old c.in-Some.core c.in-Some.is (setting_at old c.in-Some.core c.in-Some.is g.E.Engine.valid c.requires.slot) c.args.kept
    (row_at (g.E.Engine.meaning (engine_of c.in-Some.core)) (setting_of c.in-Some.core) (node_at c.in-Some.core) c.args.moment c.args.input) j r rest m c.args.moment c.args.input
    (row_is g.E.Engine.meaning g.E.Engine.heard old c.in-Some.core c.in-Some.is (setting_at old c.in-Some.core c.in-Some.is g.E.Engine.valid c.requires.slot) m means c.args.moment c.args.input))
    c.torn_rest.ensures.rest c.torn_rest.ensures.journaled
