use Rattle.sv_world.proofs.Prelude.{◌<◌, sym, ap, ◌∙◌, refl, slice_get_read, All-set, IsSlot, meant_in}
use Rattle.std.proofs.Common.{length}
use Rattle.sv_world.proofs.NodeLemmas.{settings_same, meanings_same, done, undone, ok_then, err_then}
use Rattle.sv_world.proofs.perform_at.perform_at.Goals as goal

pub returns-clause-slots : goal.returns-clause-slots
returns-clause-slots g c =
    let slots = c.args.slots.now.items in
    rw c.from.ensures (All-set (IsSlot g.E.Engine.valid) slots c.args.action.node c.perform.new.self c.perform.ensures.slot c.requires.slots)

pub returns-clause-settings : goal.returns-clause-settings
returns-clause-settings g c =
    let slots = c.args.slots.now.items in
    let old = c.index_mut.result.now in
    let less : c.from.result < length slots = rw c.from.ensures c.requires.there in
    settings_same slots c.from.result old c.perform.new.self less (slice_get_read slots (length slots) c.from.result old refl less c.index_mut.ensures.value) c.perform.ensures.setting

pub returns-clause-meanings : goal.returns-clause-meanings
returns-clause-meanings g c =
    let slots = c.args.slots.now.items in
    let old = c.index_mut.result.now in
    let less : c.from.result < length slots = rw c.from.ensures c.requires.there in
    meanings_same slots c.from.result old c.perform.new.self less (slice_get_read slots (length slots) c.from.result old refl less c.index_mut.ensures.value) g.E.Engine.meaning c.perform.ensures.meaning

pub returns-clause-done : goal.returns-clause-done
returns-clause-done g c =
    let slots = c.args.slots.now.items in
    let old = c.index_mut.result.now in
    let less : c.args.action.node < length slots = c.requires.there in
    let there = slice_get_read slots (length slots) c.args.action.node old refl less (rw c.from.ensures at c.index_mut.ensures.value) in
    rw c.from.ensures (ok_then c.perform.result _ _ (λ f h m means. done slots c.args.action.node old c.perform.new.self less there g.E.Engine.heard m c.args.action.task f (h m (sym (ap (meant_in g.E.Engine.meaning) there) ∙ means))) c.perform.ensures.done)

pub returns-clause-undone : goal.returns-clause-undone
returns-clause-undone g c =
    let slots = c.args.slots.now.items in
    let old = c.index_mut.result.now in
    let less : c.from.result < length slots = rw c.from.ensures c.requires.there in
    err_then c.perform.result _ _ (undone slots c.from.result old c.perform.new.self less (slice_get_read slots (length slots) c.from.result old refl less c.index_mut.ensures.value) g.E.Engine.heard) c.perform.ensures.undone
