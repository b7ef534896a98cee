use Rattle.sv_world.proofs.Prelude.{◌∙◌, ap, ◌++◌, option_to_list, node_at, engine_of, row_at, Effect}
use Rattle.std.proofs.Common.{Result, Ok}
use Rattle.sv_core.specs.Core.{setting_of}
use Rattle.sv_world.proofs.CoreStepLemmas.{over_plan}
use Rattle.sv_world.proofs.core_silent.silent_step.Goals as goal

pub returns-clause-over : goal.returns-clause-over
returns-clause-over g c =
    let done = c.settle.ensures in
    let r : Result Effect Effect = Ok c.settle.result in
    over_plan g.E.Engine.meaning g.E.Engine.heard r c.args.core.now c.decide.new.core c.settle.new.core c.args.journal.now.items c.settle.new.journal.items
    (row_at (g.E.Engine.meaning (engine_of c.args.core.now)) (setting_of c.args.core.now) (node_at c.args.core.now) c.args.call.moment c.args.call.input)
    c.in_ok-plan.plan c.requires.over c.decide.ensures.view c.decide.ensures.setting c.in_ok-plan.ensures.plan
    done.setting done.node (done.journal ∙ ap (λ js. js ++ option_to_list c.in_ok-plan.plan.entry) c.try_reserve.ensures.items) tt tt
