use Rattle.sv_world.proofs.Prelude.{node_at, engine_of, row_at}
use Rattle.sv_core.specs.Core.{setting_of}
use Rattle.sv_world.proofs.CoreStepLemmas.{over_plan}
use Rattle.sv_world.proofs.core_whole.whole_step.Goals as goal

pub returns-clause-over : goal.returns-clause-over
returns-clause-over g c =
    let done = c.carry_out.ensures in
    over_plan g.E.Engine.meaning g.E.Engine.heard c.carry_out.result c.args.core.now c.decide.new.core c.carry_out.new.core c.args.journal.now.items c.carry_out.new.journal.items
    (row_at (g.E.Engine.meaning (engine_of c.args.core.now)) (setting_of c.args.core.now) (node_at c.args.core.now) c.args.call.moment c.args.call.input)
    c.in_ok-plan.plan c.requires.over c.decide.ensures.view c.decide.ensures.setting c.in_ok-plan.ensures.plan
    done.setting done.node done.journal done.still done.unkept
