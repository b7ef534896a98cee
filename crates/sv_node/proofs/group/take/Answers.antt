use Rattle.std.proofs.Common.{option_copied, ap}
use Rattle.sv_core.specs.Core.{engine_of, node_at, setting_of, decision_at}
use Rattle.sv_model.specs.Step.{View}
use Rattle.sv_node.proofs.GroupLemmas.{taken, refused}
use Rattle.sv_node.proofs.group.take.Goals as goal

pub returns-clause-taken : goal.returns-clause-taken
returns-clause-taken g c =
    let old = c.args.core.now in
    taken c.args.journal.now (g.E.Engine.meaning (engine_of old)) (setting_of old) (node_at old) (node_at c.take.new.self) c.args.moment c.args.input (decision_at c.decide.new.self c.in-Ok.decision) (option_copied c.entry.result) c.take.result c.args.batch.now c.stage.new.batch
    c.in-Ok.ensures.decision c.entry.ensures c.in-Ok.ensures.journaled c.take.ensures.node c.take.ensures.told c.take.ensures.outputs c.in_default-stage.ensures.staged c.in_default-stage.ensures.spelled

pub returns-in-Err-clause-taken : goal.returns-in-Err-clause-taken
returns-in-Err-clause-taken g c =
    let old = c.args.core.now in
    refused c.args.journal.now (g.E.Engine.meaning (engine_of old)) (setting_of old) (node_at old) (node_at c.decide.new.self) c.args.moment c.args.input (decision_at c.decide.new.self c.in-Ok.decision) (option_copied c.entry.result) c.in-Err.fault c.args.batch.now c.stage.new.batch
    c.in-Ok.ensures.decision c.entry.ensures (ap (λ (v : View). v.node) c.in-Ok.ensures.view) c.in-Err.ensures.unchanged c.in-Err.ensures.fault c.in-Err.ensures.full
