use Rattle.sv_world.proofs.Prelude.{node_at, engine_of, row_at}
use Rattle.sv_core.specs.Core.{setting_of}
use Rattle.sv_world.proofs.CoreStepLemmas.{planned}
use Rattle.sv_world.proofs.plan.decide.Goals as goal

pub returns-clause-plan : goal.returns-clause-plan
unfolding row_at
returns-clause-plan g c =
    planned g.E.Engine.meaning g.E.Engine.heard c.args.core.now c.decide.new.self c.in_ok-decision.decision
    (row_at (g.E.Engine.meaning (engine_of c.args.core.now)) (setting_of c.args.core.now) (node_at c.args.core.now) c.args.call.moment c.args.call.input)
    c.in_ok-plan_of.field-0 c.in_ok-plan_of.ensures c.decide.ensures.view c.decide.ensures.setting
    c.in_ok-decision.ensures.decided c.in_ok-decision.ensures.decision c.in_ok-decision.ensures.journaled
