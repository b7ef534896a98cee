use Rattle.sv_world.proofs.Prelude.{◌≡◌, List, sym, subst, Slot, AreFilled}
use Rattle.std.proofs.Common.{length}
use Rattle.sv_world.proofs.BegunLemmas.{filled_world, at_rest}
use Rattle.sv_world.proofs.world.World.filled_at_rest.Goals as goal

pub returns-clause-world : goal.returns-clause-world
returns-clause-world g c =
    let items : c.of.result.slots.items ≡ c.fill_slots.new.slots.items = λ i. (c.of.ensures.slots i).items in
    let filled = subst (λ (xs : List (Slot g.row.E.Denot)). AreFilled (length c.args.engines.items) c.args.rules c.args.engines.items xs) (sym items) c.fill_slots.ensures.filled in
    filled_world g.E.Engine.valid c.of.result c.args.rules c.args.engines.items filled c.requires.valid c.requires.some c.requires.few

pub returns-clause-made : goal.returns-clause-made
returns-clause-made g c =
    let items : c.of.result.slots.items ≡ c.fill_slots.new.slots.items = λ i. (c.of.ensures.slots i).items in
    let filled = subst (λ (xs : List (Slot g.row.E.Denot)). AreFilled (length c.args.engines.items) c.args.rules c.args.engines.items xs) (sym items) c.fill_slots.ensures.filled in
    at_rest g.E.Engine.meaning g.E.Engine.heard c.of.result c.args.rules c.args.engines.items filled c.of.ensures.untouched
