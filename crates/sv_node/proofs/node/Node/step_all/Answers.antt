use Rattle.std.proofs.Common.{◌∙◌, ◌++◌, List, Ok, Err, IsTrue, ap, map, refl, sym, subst}
use Rattle.std.specs.List.{flat_map}
use Rattle.sv_core.specs.Core as core
use Rattle.sv_journal.specs.declared.journal_fault.JournalFault.TheVariants as journal
use Rattle.sv_node.proofs.Prelude.{EngineMeaning, heard_all, Node as State, IsSetting, IsRanged, Setting, StepFault, spelling, step_fault, Answer, entries_of}
use Rattle.sv_node.proofs.Prelude.{outcomes, events_held, ReplaysMore, IsGroup, setting_of, state_of, Replays, Stores}
use Rattle.sv_node.specs.declared.node.Node.{Node}
use Rattle.sv_node.proofs.GroupLemmas.{grouping, adding_all, untouched, device_alone, has_room, grown}
use Rattle.sv_node.proofs.node.Node.step_all.Goals as goal

pub returns-in_default-clause-group : goal.returns-in_default-clause-group
returns-in_default-clause-group g c =
    let e = g.E.Engine in
    let d = g.D.Disk in
    let old = c.args.self.now in
    let live : IsTrue old.journal.live = cc in
    untouched e.valid e.meaning e.heard d.tells d.seen d.may_leave d.moment d.left_since d.failed g.met.D.Disk.counts_now g.met.D.Disk.only_now old old c.args.inputs.items c.requires.valid live refl refl

pub returns-in-Err-clause-group : goal.returns-in-Err-clause-group
returns-in-Err-clause-group g c =
    let e = g.E.Engine in
    let d = g.D.Disk in
    let old = c.args.self.now in
    let m = e.meaning (core.engine_of old.core) in
    let set = setting_of old in
    let n = state_of old in
    let inputs = c.args.inputs.items in
    let t = c.take_all.ensures.taken in
    let found = outcomes c.take_all.new.held.items in
    let rs = entries_of m set n inputs found in
    let new : Node g.row.E.Denot g.row.D.Denot = record old { core = c.take_all.new.core; journal = c.append_all.new.self } in
    let live : IsTrue old.journal.live = cc in
    let is = device_alone c.in-Err.fault (λ failed. let dead = c.in-Err.ensures.failed.0 failed in absurd cc) (λ full. let f = c.in-Err.ensures.full.0 full in has_room old.journal c.take_all.new.batch c.take_all.ensures.room f.1 f.2) c.in-Err.ensures.damaged c.in-Err.ensures.memory in
    let device = c.in-Err.ensures.device (ap Err is) in
    subst (λ (f : StepFault). IsGroup e.meaning e.heard d.tells d.seen d.may_leave d.moment d.left_since d.failed old inputs (Err f) new) (sym (c.step_fault.ensures ∙ ap step_fault is))
    (grouping e.valid e.meaning e.heard d.tells d.seen d.may_leave d.moment d.left_since d.failed g.met.D.Disk.counts_now old new inputs (Err (step_fault journal.Device)) c.requires.valid
    ((found, t.answers, t.node), c.take_all.ensures.meaning, c.take_all.ensures.heard, device.0, device.1)
    (λ dead. absurd cc) c.take_all.ensures.setting c.append_all.ensures.tells c.append_all.ensures.other c.append_all.ensures.on_a
    (λ told s. adding_all e.valid e.meaning e.heard d.tells d.seen d.may_leave d.moment d.left_since d.failed g.met.D.Disk.counts_now old.journal set n (state_of new) rs c.append_all.new.self.current s t.replays (c.append_all.ensures.any_moment s.entries (map spelling rs) told s.holds t.staged))
    (λ told. (found, t.answers, t.node, λ entries holds. c.append_all.ensures.any_moment entries (map spelling rs) told holds t.staged)) c.append_all.ensures.generation)

pub returns-clause-valid : goal.returns-clause-valid
returns-clause-valid g c =
    let e = g.E.Engine in
    let d = g.D.Disk in
    let old = c.args.self.now in
    let m = e.meaning (core.engine_of old.core) in
    let set = setting_of old in
    let n = state_of old in
    let inputs = c.args.inputs.items in
    let t = c.take_all.ensures.taken in
    let found = outcomes c.take_all.new.held.items in
    let rs = entries_of m set n inputs found in
    let set_is = c.tell_all.ensures.setting ∙ c.take_all.ensures.setting in
    record {
      engine = c.tell_all.ensures.valid;
      setting = subst IsSetting (sym set_is) c.requires.valid.setting;
      ranged = subst IsRanged (sym c.tell_all.ensures.node) c.take_all.ensures.ranged;
      stored = λ live told.
          let told_a = c.append_all.ensures.tells.told_before told.0 in
          let told_b = subst (λ x. d.tells x) c.append_all.ensures.other told.1 in
          let is_live : IsTrue old.journal.live = cc in
          let s = c.requires.valid.stored is_live (told_a, told_b) in
          let kept : Stores d.seen d.may_leave c.append_all.new.self set (core.durable_at c.take_all.new.core) = record {
            entries = s.entries ++ map spelling rs;
            holds = c.in_default-append_all.ensures.added s.entries (map spelling rs) told_a s.holds t.staged;
            replays = t.replays s.entries s.replays;
          } in
          subst (λ (x : Setting). Stores d.seen d.may_leave c.append_all.new.self x (core.durable_at c.tell_all.new.core)) (sym set_is)
          (subst (λ (x : State). Stores d.seen d.may_leave c.append_all.new.self set x.durable) (sym c.tell_all.ensures.node) kept);
    }

pub returns-clause-group : goal.returns-clause-group
returns-clause-group g c =
    let e = g.E.Engine in
    let d = g.D.Disk in
    let old = c.args.self.now in
    let m = e.meaning (core.engine_of old.core) in
    let set = setting_of old in
    let n = state_of old in
    let inputs = c.args.inputs.items in
    let t = c.take_all.ensures.taken in
    let found = outcomes c.take_all.new.held.items in
    let rs = entries_of m set n inputs found in
    let new : Node g.row.E.Denot g.row.D.Denot = record old { core = c.tell_all.new.core; journal = c.append_all.new.self; counts = c.take_all.new.counts } in
    let mid = c.take_all.new.core in
    let was = e.heard (core.engine_of old.core) in
    let events = flat_map events_held c.take_all.new.held.items in
    let live : IsTrue old.journal.live = cc in
    let replays : ReplaysMore set n (state_of new) rs = λ entries r. subst (λ (x : State). Replays set (entries ++ map spelling rs) x.durable) (sym c.tell_all.ensures.node) (t.replays entries r) in
    let heard_is = c.tell_all.ensures.heard ∙ ap (λ (x : EngineMeaning). heard_all x (e.heard (core.engine_of mid)) events) c.take_all.ensures.meaning ∙ ap (λ h. heard_all m h events) c.take_all.ensures.heard ∙ ap (λ xs. heard_all m was xs) t.told in
    subst (λ (xs : List Answer). IsGroup e.meaning e.heard d.tells d.seen d.may_leave d.moment d.left_since d.failed old inputs (Ok xs) new) (sym c.tell_all.ensures.answers)
    (grouping e.valid e.meaning e.heard d.tells d.seen d.may_leave d.moment d.left_since d.failed g.met.D.Disk.counts_now old new inputs (Ok found) c.requires.valid (
      t.answers,
      c.tell_all.ensures.node ∙ t.node,
      c.tell_all.ensures.meaning ∙ c.take_all.ensures.meaning,
      heard_is,
      c.in_default-append_all.ensures.live,
      record {
        end = grown c.take_all.new.batch rs old.journal.end c.append_all.new.self.end t.staged c.in_default-append_all.ensures.end;
        generation = c.append_all.ensures.generation;
      },
    )
    (λ dead. absurd cc) (c.tell_all.ensures.setting ∙ c.take_all.ensures.setting) c.append_all.ensures.tells c.append_all.ensures.other c.append_all.ensures.on_a
    (λ told s. adding_all e.valid e.meaning e.heard d.tells d.seen d.may_leave d.moment d.left_since d.failed g.met.D.Disk.counts_now old.journal set n (state_of new) rs c.append_all.new.self.current s replays (c.append_all.ensures.any_moment s.entries (map spelling rs) told s.holds t.staged))
    (λ told entries holds. c.append_all.ensures.any_moment entries (map spelling rs) told holds t.staged) c.append_all.ensures.generation)
