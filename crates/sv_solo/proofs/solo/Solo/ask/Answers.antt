use Rattle.std.proofs.Common.{Ok, sym, subst}
use Rattle.sv_model.specs.declared.input.Input.TheVariants.{Ask}
use Rattle.sv_solo.specs.Solo.{solo_steps}
use Rattle.sv_solo.proofs.SoloLemmas.{put_one}
use Rattle.sv_solo.proofs.solo.Solo.ask.Goals as goal

pub returns-clause-step : goal.returns-clause-step
returns-clause-step g c =
    let put = put_one c.in_ok-outputs.outputs.items _ c.in_ok-serve.field-0 c.in_ok-outputs.ensures.items c.push_reserved.ensures.items in
    subst (λ os. solo_steps g.E.Engine.meaning g.E.Engine.heard c.args.self.now c.args.moment (Ask c.args.token c.args.request.now) (Ok os) c.serve.new.self) (sym put) (c.in_ok-serve.ensures.step)
