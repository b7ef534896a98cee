use Rattle.sv_world.proofs.Prelude.{◌<◌, sym, ap, ◌∙◌, refl, option_map, slice_get_read, All-set, IsSlot, meant_in}
use Rattle.std.proofs.Common.{length}
use Rattle.sv_world.proofs.NodeLemmas.{installed, members_same, settings_same, meanings_same, undone}
use Rattle.sv_world.proofs.installing.install_at.Goals as goal

pub returns-in-Ok-clause-slots : goal.returns-in-Ok-clause-slots
returns-in-Ok-clause-slots g c =
    rw c.from.ensures (All-set (IsSlot g.E.Engine.valid) c.args.slots.now.items c.args.setting.node c.install.new.self c.install.ensures.slot c.requires.slots)

pub returns-in-Ok-clause-members : goal.returns-in-Ok-clause-members
returns-in-Ok-clause-members g c =
    let slots = c.args.slots.now.items in
    let old = c.index_mut.result.now in
    let less : c.from.result < length slots = rw c.from.ensures c.requires.there in
    let there = slice_get_read slots (length slots) c.from.result old refl less c.index_mut.ensures.value in
    members_same g.E.Engine.meaning g.E.Engine.heard slots c.from.result old c.install.new.self less there c.install.ensures.member

pub returns-in-Err-clause-slots : goal.returns-in-Err-clause-slots
returns-in-Err-clause-slots g c =
    rw c.from.ensures (All-set (IsSlot g.E.Engine.valid) c.args.slots.now.items c.args.setting.node c.install.new.self c.install.ensures.slot c.requires.slots)

pub returns-in-Err-clause-members : goal.returns-in-Err-clause-members
returns-in-Err-clause-members g c =
    let slots = c.args.slots.now.items in
    let old = c.index_mut.result.now in
    let less : c.from.result < length slots = rw c.from.ensures c.requires.there in
    let there = slice_get_read slots (length slots) c.from.result old refl less c.index_mut.ensures.value in
    members_same g.E.Engine.meaning g.E.Engine.heard slots c.from.result old c.install.new.self less there c.install.ensures.member

pub returns-in-Ok-clause-installed : goal.returns-in-Ok-clause-installed
returns-in-Ok-clause-installed g c =
    let slots = c.args.slots.now.items in
    let old = c.index_mut.result.now in
    let less : c.from.result < length slots = rw c.from.ensures c.requires.there in
    let there = slice_get_read slots (length slots) c.from.result old refl less c.index_mut.ensures.value in
    installed g.E.Engine.meaning g.E.Engine.heard slots c.from.result old c.install.new.self less there c.args.setting c.args.engine (sym c.from.ensures) c.in-Ok.ensures.setting c.in-Ok.ensures.engine

pub returns-in-Ok-clause-had : goal.returns-in-Ok-clause-had
returns-in-Ok-clause-had g c =
    let slots = c.args.slots.now.items in
    let old = c.index_mut.result.now in
    let less : c.args.setting.node < length slots = c.requires.there in
    let there = slice_get_read slots (length slots) c.args.setting.node old refl less (rw c.from.ensures at c.index_mut.ensures.value) in
    ap (meant_in g.E.Engine.meaning) there ∙ ap (option_map g.E.Engine.meaning) c.in-Ok.ensures.had

pub returns-in-Err-clause-undone : goal.returns-in-Err-clause-undone
returns-in-Err-clause-undone g c =
    let slots = c.args.slots.now.items in
    let old = c.index_mut.result.now in
    let less : c.from.result < length slots = rw c.from.ensures c.requires.there in
    let there = slice_get_read slots (length slots) c.from.result old refl less c.index_mut.ensures.value in
    undone slots c.from.result old c.install.new.self less there g.E.Engine.heard (record { member = c.install.ensures.member; heard = ap (option_map g.E.Engine.heard) c.in-Err.ensures.kept })

pub returns-in-Err-clause-settings : goal.returns-in-Err-clause-settings
returns-in-Err-clause-settings g c =
    let slots = c.args.slots.now.items in
    let old = c.index_mut.result.now in
    let less : c.from.result < length slots = rw c.from.ensures c.requires.there in
    let there = slice_get_read slots (length slots) c.from.result old refl less c.index_mut.ensures.value in
    settings_same slots c.from.result old c.install.new.self less there c.in-Err.ensures.same

pub returns-in-Err-clause-meanings : goal.returns-in-Err-clause-meanings
returns-in-Err-clause-meanings g c =
    let slots = c.args.slots.now.items in
    let old = c.index_mut.result.now in
    let less : c.from.result < length slots = rw c.from.ensures c.requires.there in
    let there = slice_get_read slots (length slots) c.from.result old refl less c.index_mut.ensures.value in
    meanings_same slots c.from.result old c.install.new.self less there g.E.Engine.meaning (ap (option_map g.E.Engine.meaning) c.in-Err.ensures.kept)
