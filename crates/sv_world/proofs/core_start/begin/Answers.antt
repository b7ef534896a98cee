use Rattle.sv_world.proofs.Prelude.{◌∙◌, ◌++◌, ap, subst, option_to_list, IfSome, IsJournaled, Node, applied_if, node_at, decision_at}
use Rattle.sv_core.specs.Core.{setting_of}
use Rattle.sv_world.specs.declared.core_start.BootPlan.{BootPlan}
use Rattle.sv_world.proofs.CoreStepLemmas.{over_more}
use Rattle.sv_world.proofs.core_start.begin.Goals as goal

pub returns-clause-over : goal.returns-clause-over
returns-clause-over g c =
    let old = c.args.core.now in
    let mid = c.decide_start.new.self in
    let entry = c.in-Some.decision.entry in
    let j : IsJournaled (setting_of old) (node_at old) (decision_at mid c.in-Some.decision) =
    subst (λ o. IfSome o (λ d. IsJournaled (setting_of old) (node_at old) (decision_at mid d))) c.in-Some.is c.in_ok-decision.ensures.journaled in
    over_more old c.enter.new.core c.args.journal.now.items c.enter.new.journal.items entry c.requires.over
    (c.enter.ensures.setting ∙ c.decide_start.ensures.setting)
    (ap (λ (n : Node). n.durable) c.enter.ensures.node ∙ ap (λ (p : BootPlan). applied_if p.decision.entry (node_at mid).durable) c.in_ok-plan.ensures ∙ ap (λ (n : Node). applied_if entry n.durable) c.decide_start.ensures.node)
    (c.enter.ensures.journal ∙ ap (λ (p : BootPlan). c.try_reserve.new.self.items ++ option_to_list p.kept) c.in_ok-plan.ensures ∙ ap (λ rs. rs ++ option_to_list entry) c.try_reserve.ensures.items)
    j.fits
