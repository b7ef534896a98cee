use Rattle.std.specs.Option.{option_to_list}
use Rattle.std.proofs.Common.{refl, sym, ap, [], ◌∷◌}
use Rattle.sv_solo.proofs.SoloLemmas.{ticked}
use Rattle.sv_solo.proofs.solo.Solo.tick.Goals as goal

pub returns-in_default-clause-step : goal.returns-in_default-clause-step
returns-in_default-clause-step g c =
    let engine = c.args.self.now.engine in
    ticked (g.E.Engine.meaning engine) c.args.self.now.sessions.items c.args.self.now.sessions.items c.expire.new.sessions.items (g.E.Engine.heard engine) (g.E.Engine.heard engine) c.args.moment.now c.args.moment.steady
    (g.E.Engine.meaning engine) c.expire.result [] c.new.result.items refl c.expire.ensures.sessions c.expire.ensures.told (sym (ap option_to_list c.in_default.is)) refl refl
    c.new.ensures.items

pub returns-clause-step : goal.returns-clause-step
returns-clause-step g c =
    let engine = c.args.self.now.engine in
    ticked (g.E.Engine.meaning engine) c.args.self.now.sessions.items c.args.self.now.sessions.items c.expire.new.sessions.items (g.E.Engine.heard engine) (g.E.Engine.heard c.tell.new.self) c.args.moment.now c.args.moment.steady
    (g.E.Engine.meaning c.tell.new.self) c.expire.result (c.in-Some.told ∷ []) c.new-2.result.items refl c.expire.ensures.sessions c.expire.ensures.told
    (sym (ap option_to_list c.in-Some.is)) c.tell.ensures.meaning c.tell.ensures.heard c.new-2.ensures.items
