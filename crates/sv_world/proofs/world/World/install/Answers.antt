use Rattle.sv_world.proofs.Prelude.{◌≡◌, ◌<◌, ℕ, false, Option, None, List, arith, sym, ap, ◌∙◌, subst, slice_get, Setting, InstallFault, Slot, AreInstalled}
use Rattle.sv_world.proofs.Prelude.{fault_by, setting_by, world_of, members_by, IsSet, AreSet}
use Rattle.std.proofs.Common.{length}
use Rattle.sv_world.specs.declared.world.World.{World as Nodes}
use Rattle.sv_world.proofs.HappenedLemmas.{same_cluster}
use Rattle.sv_world.proofs.InstallLemmas.{ready_by, there_by_fault, all_set, installed_ran, still_ran, ok_map, err_map, ok_or_err, err_all, ok_all, no_cause}
use Rattle.sv_world.proofs.InstallLemmas.{own_cause}
use Rattle.sv_world.proofs.world.World.install.Goals as goal

-- the fault that was looked for is that of the world
none_at : {E : Type 0} (xs slots : List (Slot E)) (n nodes : ℕ) (r : Option InstallFault) → xs ≡ slots → r ≡ fault_by n nodes (slice_get xs n) → r ≡ None → fault_by n nodes (slice_get slots n) ≡ None
none_at xs slots n nodes r same is none = ap (λ ys. fault_by n nodes (slice_get ys n)) (sym same) ∙ sym is ∙ none

pub install_at-requires-clause-there : goal.install_at-requires-clause-there
install_at-requires-clause-there g c =
    let old = c.args.self.now in
    let node = c.args.node in
    let nodes = c.args.nodes in
    let none = none_at c.deref.result.now old.slots.items node nodes c.fault_of.result c.deref.ensures.value c.fault_of.ensures c.in_default.is in
    subst (λ (s : Setting). s.node < length old.slots.items) (sym c.setting.ensures) (there_by_fault node nodes old.slots.items none)

pub install_at-requires-clause-down : goal.install_at-requires-clause-down
install_at-requires-clause-down g c =
    let old = c.args.self.now in
    let node = c.args.node in
    let nodes = c.args.nodes in
    let none = none_at c.deref.result.now old.slots.items node nodes c.fault_of.result c.deref.ensures.value c.fault_of.ensures c.in_default.is in
    subst (λ (s : Setting). (members_by old.slots.items s.node).up ≡ false) (sym c.setting.ensures) (ready_by node nodes (slice_get old.slots.items node) none).1

pub returns-clause-world : goal.returns-clause-world
returns-clause-world g c =
    let old = c.args.self.now in
    let node = c.args.node in
    let nodes = c.args.nodes in
    let none = none_at c.deref.result.now old.slots.items node nodes c.fault_of.result c.deref.ensures.value c.fault_of.ensures c.in_default.is in
    let new : Nodes g.row.E.Denot = record { alloc = old.alloc; slots = c.install_at.new.slots; packets = old.packets; trace = old.trace } in
    let is = c.install_at.ensures in
    let world : world_of new ≡ world_of old = λ i. record { members = is.members i; packets = old.packets.items; trace = old.trace.items } in
    let there = there_by_fault node nodes old.slots.items none in
    let ready = ready_by node nodes (slice_get old.slots.items node) none in
    let set : (h : AreInstalled g.E.Engine.meaning g.E.Engine.heard c.setting.result c.args.engine old.slots.items new.slots.items) → AreInstalled g.E.Engine.meaning g.E.Engine.heard (setting_by c.args.rules node nodes) c.args.engine old.slots.items new.slots.items =
    λ h. subst (λ (s : Setting). AreInstalled g.E.Engine.meaning g.E.Engine.heard s c.args.engine old.slots.items new.slots.items) c.setting.ensures h in
    let sets : AreSet new.slots.items = ok_or_err c.install_at.result
    (λ h. all_set g.E.Engine.meaning g.E.Engine.heard old new node nodes c.args.rules c.args.engine is.number there ready.0 world (set h) c.requires.world.settings)
    (λ h. subst (λ s. (x : ℕ) → x < length new.slots.items → IsSet x (s x)) (sym h) (λ x inside. c.requires.world.settings x (omega (arith, is.number, inside))))
    is.installed is.settings in
    record { slots = is.slots; settings = sets; some = omega (arith, is.number, c.requires.world.some); few = omega (arith, is.number, c.requires.world.few) }

pub returns-clause-nothing : goal.returns-clause-nothing
returns-clause-nothing g c =
    λ i. record { members = c.install_at.ensures.members i; packets = c.args.self.now.packets.items; trace = c.args.self.now.trace.items }

pub returns-clause-possible : goal.returns-clause-possible
returns-clause-possible g c =
    let old = c.args.self.now in
    let node = c.args.node in
    let nodes = c.args.nodes in
    let none = none_at c.deref.result.now old.slots.items node nodes c.fault_of.result c.deref.ensures.value c.fault_of.ensures c.in_default.is in
    ok_all c.install_at.result none

pub returns-clause-cause : goal.returns-clause-cause
returns-clause-cause g c =
    let old = c.args.self.now in
    let node = c.args.node in
    let nodes = c.args.nodes in
    let none = none_at c.deref.result.now old.slots.items node nodes c.fault_of.result c.deref.ensures.value c.fault_of.ensures c.in_default.is in
    err_all c.install_at.result _ (λ u. no_cause _ u.fault none)

pub returns-clause-ran : goal.returns-clause-ran
returns-clause-ran g c =
    let old = c.args.self.now in
    let node = c.args.node in
    let nodes = c.args.nodes in
    let none = none_at c.deref.result.now old.slots.items node nodes c.fault_of.result c.deref.ensures.value c.fault_of.ensures c.in_default.is in
    let new : Nodes g.row.E.Denot = record { alloc = old.alloc; slots = c.install_at.new.slots; packets = old.packets; trace = old.trace } in
    let is = c.install_at.ensures in
    let world : world_of new ≡ world_of old = λ i. record { members = is.members i; packets = old.packets.items; trace = old.trace.items } in
    let there = there_by_fault node nodes old.slots.items none in
    let ready = ready_by node nodes (slice_get old.slots.items node) none in
    let set : (h : AreInstalled g.E.Engine.meaning g.E.Engine.heard c.setting.result c.args.engine old.slots.items new.slots.items) → AreInstalled g.E.Engine.meaning g.E.Engine.heard (setting_by c.args.rules node nodes) c.args.engine old.slots.items new.slots.items =
    λ h. subst (λ (s : Setting). AreInstalled g.E.Engine.meaning g.E.Engine.heard s c.args.engine old.slots.items new.slots.items) c.setting.ensures h in
    ok_map c.install_at.result
    (λ h m k r. installed_ran g.E.Engine.meaning g.E.Engine.heard old new node nodes c.args.rules c.args.engine is.number there ready.0 world (set h) ready.1 (g.met.E.Engine.untouched c.args.engine c.requires.valid) m k r)
    is.installed

pub returns-clause-heard : goal.returns-clause-heard
returns-clause-heard g c =
    let old = c.args.self.now in
    let node = c.args.node in
    let nodes = c.args.nodes in
    let none = none_at c.deref.result.now old.slots.items node nodes c.fault_of.result c.deref.ensures.value c.fault_of.ensures c.in_default.is in
    let new : Nodes g.row.E.Denot = record { alloc = old.alloc; slots = c.install_at.new.slots; packets = old.packets; trace = old.trace } in
    let is = c.install_at.ensures in
    let world : world_of new ≡ world_of old = λ i. record { members = is.members i; packets = old.packets.items; trace = old.trace.items } in
    let set : (h : AreInstalled g.E.Engine.meaning g.E.Engine.heard c.setting.result c.args.engine old.slots.items new.slots.items) → AreInstalled g.E.Engine.meaning g.E.Engine.heard (setting_by c.args.rules node nodes) c.args.engine old.slots.items new.slots.items =
    λ h. subst (λ (s : Setting). AreInstalled g.E.Engine.meaning g.E.Engine.heard s c.args.engine old.slots.items new.slots.items) c.setting.ensures h in
    ok_map c.install_at.result (λ h. (set h).heard) is.installed

pub returns-clause-still : goal.returns-clause-still
returns-clause-still g c =
    let old = c.args.self.now in
    let node = c.args.node in
    let nodes = c.args.nodes in
    let none = none_at c.deref.result.now old.slots.items node nodes c.fault_of.result c.deref.ensures.value c.fault_of.ensures c.in_default.is in
    let new : Nodes g.row.E.Denot = record { alloc = old.alloc; slots = c.install_at.new.slots; packets = old.packets; trace = old.trace } in
    let is = c.install_at.ensures in
    let world : world_of new ≡ world_of old = λ i. record { members = is.members i; packets = old.packets.items; trace = old.trace.items } in
    err_map c.install_at.result
    (λ undone settings meanings. record { size = is.number; cluster = same_cluster old new settings; world = world; meanings = meanings; heard = undone.heard })
    is.undone is.settings is.meanings

pub returns-clause-unchanged : goal.returns-clause-unchanged
returns-clause-unchanged g c =
    let old = c.args.self.now in
    let node = c.args.node in
    let nodes = c.args.nodes in
    let none = none_at c.deref.result.now old.slots.items node nodes c.fault_of.result c.deref.ensures.value c.fault_of.ensures c.in_default.is in
    let new : Nodes g.row.E.Denot = record { alloc = old.alloc; slots = c.install_at.new.slots; packets = old.packets; trace = old.trace } in
    let is = c.install_at.ensures in
    let world : world_of new ≡ world_of old = λ i. record { members = is.members i; packets = old.packets.items; trace = old.trace.items } in
    err_map c.install_at.result
    (λ undone settings meanings. still_ran g.E.Engine.meaning old new is.number world settings meanings)
    is.undone is.settings is.meanings

pub returns-in-Some-clause-cause : goal.returns-in-Some-clause-cause
returns-in-Some-clause-cause g c =
    own_cause _ c.fault_of.result c.in-Some.fault (c.fault_of.ensures ∙ ap (λ ys. fault_by c.args.node c.args.nodes (slice_get ys c.args.node)) c.deref.ensures.value) c.in-Some.is
