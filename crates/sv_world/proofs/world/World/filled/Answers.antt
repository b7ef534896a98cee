use Rattle.sv_world.proofs.Prelude.{◌≡◌, List, sym, subst, Slot, AreFilled}
use Rattle.std.proofs.Common.{length}
use Rattle.sv_world.proofs.BegunLemmas.{filled_world, started, back}
use Rattle.sv_world.proofs.world.World.filled.Goals as goal

pub begin-requires-clause-world : goal.begin-requires-clause-world
begin-requires-clause-world g c =
    let items : c.of-world.result.slots.items ≡ c.fill_slots.new.slots.items = λ i. (c.of-world.ensures.slots i).items in
    let filled = subst (λ (xs : List (Slot g.row.E.Denot)). AreFilled (length c.args.engines.items) c.args.rules c.args.engines.items xs) (sym items) c.fill_slots.ensures.filled in
    filled_world g.E.Engine.valid c.of-world.result c.args.rules c.args.engines.items filled c.requires.valid c.requires.some c.requires.few

pub returns-in-Ok-clause-started : goal.returns-in-Ok-clause-started
returns-in-Ok-clause-started g c =
    let items : c.of-world.result.slots.items ≡ c.fill_slots.new.slots.items = λ i. (c.of-world.ensures.slots i).items in
    let filled = subst (λ (xs : List (Slot g.row.E.Denot)). AreFilled (length c.args.engines.items) c.args.rules c.args.engines.items xs) (sym items) c.fill_slots.ensures.filled in
    started g.E.Engine.meaning g.E.Engine.heard c.of-world.result c.args.rules c.args.engines.items filled c.of-world.ensures.untouched c.begin.new.self c.in-Ok.ensures.begun

pub returns-in-Err-clause-back : goal.returns-in-Err-clause-back
returns-in-Err-clause-back g c =
    let items : c.of-world.result.slots.items ≡ c.fill_slots.new.slots.items = λ i. (c.of-world.ensures.slots i).items in
    let filled = subst (λ (xs : List (Slot g.row.E.Denot)). AreFilled (length c.args.engines.items) c.args.rules c.args.engines.items xs) (sym items) c.fill_slots.ensures.filled in
    back g.E.Engine.meaning g.E.Engine.heard c.of-world.result c.args.rules c.args.engines.items filled g.E.Engine.valid c.begin.new.engines.items c.in-Err.ensures.back
