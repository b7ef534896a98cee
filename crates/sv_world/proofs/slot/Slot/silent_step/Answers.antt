use Rattle.sv_world.proofs.Prelude.{Some, refl, IfOk-weaker}
use Rattle.sv_world.proofs.SlotLemmas.{setting_at, silent_done}
use Rattle.sv_world.proofs.slot.Slot.silent_step.Goals as goal

pub returns-clause-done : goal.returns-clause-done
returns-clause-done g c =
    let old = c.args.self.now in
    IfOk-weaker c.silent_step.result _ _ (λ f done.
    silent_done g.E.Engine.meaning g.E.Engine.heard old c.in-Some.core c.in-Some.is (setting_at old c.in-Some.core c.in-Some.is g.E.Engine.valid c.requires.slot)
    (record { setting = c.args.self.now.setting; journal = c.silent_step.new.journal; core = Some c.silent_step.new.core; idle = c.args.self.now.idle })
    c.silent_step.new.core refl c.args.moment c.args.input c.heading_by-heading.result f c.heading_by-heading.ensures c.silent_step.ensures.heard done) c.silent_step.ensures.done
