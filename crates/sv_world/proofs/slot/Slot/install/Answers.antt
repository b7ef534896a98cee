use Rattle.sv_world.proofs.Prelude.{Some, sym, ap, ◌∙◌, subst, refl, Blank, AllFit, blank}
use Rattle.sv_world.proofs.InstallLemmas.{set_slot, set_engine}
use Rattle.sv_world.proofs.slot.Slot.install.Goals as goal

pub returns-clause-slot : goal.returns-clause-slot
returns-clause-slot g c =
    let old = c.args.self.now in
    set_slot old (record { setting = c.args.setting; journal = old.journal; core = old.core; idle = Some c.into_engine.result }) c.requires.down refl refl g.E.Engine.valid c.into_engine.result
    (subst g.E.Engine.valid (sym (c.into_engine.ensures ∙ c.in_ok-core.ensures.ok.over)) c.requires.valid) refl
    (subst (AllFit c.args.setting Blank blank) c.deref.ensures.value c.in_ok-core.ensures.ok.fit)

pub returns-clause-engine : goal.returns-clause-engine
returns-clause-engine g c =
    let old = c.args.self.now in
    set_engine old (record { setting = c.args.setting; journal = old.journal; core = old.core; idle = Some c.into_engine.result }) c.requires.down refl refl c.args.engine
    (ap Some (c.into_engine.ensures ∙ c.in_ok-core.ensures.ok.over))
