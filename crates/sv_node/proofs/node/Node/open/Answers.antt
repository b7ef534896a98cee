use Rattle.std.proofs.Common.{◌≡◌, inr, ⊎_elim, ◌∙◌, ◌+◌, ◌++◌, ◌∷◌, [], ℕ, length, Bool, cond, List, Some, ap, sym, subst}
use Rattle.sv_core.specs.Core.{node_at, durable_at, setting_of as core_setting}
use Rattle.sv_node.proofs.Prelude.{LeavesOnly, TellsOn, Durable, Node as State, IsSetting, IsRanged, IsRecord, Setting, Blank, Record, blank, boot_record}
use Rattle.sv_node.proofs.Prelude.{replayed, AllFit, Holds, disk_a, disk_b, spelling, open_fault, IsTooLong, HasAdded, StartsWithoutLoss, restarted, Stores}
use Rattle.sv_node.proofs.Prelude.{RestoresEither, Damaged, Device, Full}
use Rattle.std.specs.List.{AllByRecursion}
use Rattle.sv_node.proofs.OpenLemmas.{was_damaged, was_bad, current_tells, both_tell, fits_too, gives_too, recovered, restarted_ranged, tell_on, at_state, refused_left, refused_unstarted, either_same}
use Rattle.sv_node.proofs.OpeningMoments.{refused_moments, started_moments, read_then}
use Rattle.sv_node.proofs.RecordLemmas.{spell_length}
use Rattle.sv_node.proofs.StopLemmas.{left_behind, reading}
use Rattle.sv_node.proofs.node.Node.open.Goals as goal

pub returns-in-Err-clause-damaged : goal.returns-in-Err-clause-damaged
returns-in-Err-clause-damaged g c = λ is ta tb d r. absurd (c.in-Err.ensures.damaged (was_damaged c.in-Err.refused.fault (sym c.open_fault.ensures ∙ is)) ta tb r.entries r.opens)

pub returns-in-Err-clause-left_err : goal.returns-in-Err-clause-left_err
returns-in-Err-clause-left_err g c = λ ta tb d r.
    let k = g.D.Disk in
    let t = c.in-Err.ensures.tells_err in
    refused_left k.tells k.seen k.may_leave k.moment k.left_since g.met.D.Disk.counts_now c.args.setting c.args.a c.args.b c.in-Err.refused.a c.in-Err.refused.b (t.0.tells_after ta) (t.1.tells_after tb) d r (c.in-Err.ensures.any_moment_err ta tb)

pub returns-in-Err-read-clause-damaged : goal.returns-in-Err-read-clause-damaged
returns-in-Err-read-clause-damaged g c = λ is ta tb d r.
    let j = c.in-Ok.journal in
    let t = c.in-Ok.ensures.tells in
    let told = current_tells g.D.Disk.tells j.on_a j.current j.other (t.0.tells_after ta) (t.1.tells_after tb) in
    let fault_is : c.in-Err-read.fault ≡ Damaged = sym (ap (λ x. x.fault) c.not_opened.ensures) ∙ is in
    absurd (c.in-Err-read.ensures.damaged fault_is told r.entries (c.in-Ok.ensures.holds ta tb r.entries r.opens) r.replays.records r.replays.spelled)

pub returns-in-Err-read-clause-left_err : goal.returns-in-Err-read-clause-left_err
returns-in-Err-read-clause-left_err g c = λ ta tb d r x y left_x left_y.
    let k = g.D.Disk in
    let j = c.in-Ok.journal in
    let t = c.in-Ok.ensures.tells in
    let told = current_tells k.tells j.on_a j.current j.other (t.0.tells_after ta) (t.1.tells_after tb) in
    let holds = c.in-Ok.ensures.holds ta tb r.entries r.opens in
    let q = c.read.ensures.quiet in
    let is = c.not_opened.ensures in
    inr (left_behind k.tells k.seen k.may_leave k.moment k.left_since g.met.D.Disk.counts_now j c.read.new.journal c.args.setting d (restarted c.args.setting d) (q.tells_after told) (ap (λ z. z.other) c.read.ensures.same) holds.other_durable
    (reading k.tells k.seen k.may_leave k.moment k.left_since j c.read.new.journal.current c.args.setting r.entries d (restarted c.args.setting d) holds r.replays (q.left told)) x y
    (subst (λ z. k.may_leave z x) (ap (λ z. z.a) is) left_x) (subst (λ z. k.may_leave z y) (ap (λ z. z.b) is) left_y))

pub returns-in-Err-recover-clause-damaged : goal.returns-in-Err-recover-clause-damaged
returns-in-Err-recover-clause-damaged g c = λ is ta tb d r.
    let j = c.in-Ok.journal in
    let t = c.in-Ok.ensures.tells in
    let told = current_tells g.D.Disk.tells j.on_a j.current j.other (t.0.tells_after ta) (t.1.tells_after tb) in
    let fault_is = sym c.apply_fault.ensures ∙ sym (ap (λ x. x.fault) c.not_opened-in-Err-recover.ensures) ∙ is in
    let s = c.in-Ok-read.ensures.spelled r.entries told (c.in-Ok.ensures.holds ta tb r.entries r.opens) in
    absurd (c.in-Err-recover.ensures.bad (was_bad c.in-Err-recover.refused.fault fault_is)
    (subst (λ (xs : List Record). AllFit c.args.setting Blank blank xs) (sym c.deref.ensures.value) (fits_too c.args.setting r.entries c.in-Ok-read.records.items d s r.replays)))

pub returns-in-Err-recover-clause-left_err : goal.returns-in-Err-recover-clause-left_err
returns-in-Err-recover-clause-left_err g c = λ ta tb d r x y left_x left_y.
    let k = g.D.Disk in
    let j = c.in-Ok.journal in
    let t = c.in-Ok.ensures.tells in
    let told = current_tells k.tells j.on_a j.current j.other (t.0.tells_after ta) (t.1.tells_after tb) in
    let holds = c.in-Ok.ensures.holds ta tb r.entries r.opens in
    let q = c.read.ensures.quiet in
    let is = c.not_opened-in-Err-recover.ensures in
    inr (left_behind k.tells k.seen k.may_leave k.moment k.left_since g.met.D.Disk.counts_now j c.read.new.journal c.args.setting d (restarted c.args.setting d) (q.tells_after told) (ap (λ z. z.other) c.read.ensures.same) holds.other_durable
    (reading k.tells k.seen k.may_leave k.moment k.left_since j c.read.new.journal.current c.args.setting r.entries d (restarted c.args.setting d) holds r.replays (q.left told)) x y
    (subst (λ z. k.may_leave z x) (ap (λ z. z.a) is) left_x) (subst (λ z. k.may_leave z y) (ap (λ z. z.b) is) left_y))

pub returns-in-Err-start-clause-damaged : goal.returns-in-Err-start-clause-damaged
returns-in-Err-start-clause-damaged g c = λ is ta tb d r.
    let j = c.in-Ok.journal in
    let t = c.in-Ok.ensures.tells in
    let told = current_tells g.D.Disk.tells j.on_a j.current j.other (t.0.tells_after ta) (t.1.tells_after tb) in
    let fault_is : c.in-Err-start.fault ≡ Damaged = sym (ap (λ x. x.fault) c.not_opened-in-Err-start.ensures) ∙ is in
    let s = c.in-Ok-read.ensures.spelled r.entries told (c.in-Ok.ensures.holds ta tb r.entries r.opens) in
    let same = gives_too c.args.setting r.entries c.in-Ok-read.records.items d s r.replays ∙ ap (replayed blank) (sym c.deref.ensures.value) ∙ sym (ap (λ (n : State). n.durable) c.in-Ok-recover.ensures.ok.node) in
    ap (λ (x : Durable). x.boot) same ∙ c.in-Err-start.ensures.damaged fault_is

pub returns-in-Err-start-clause-left_err : goal.returns-in-Err-start-clause-left_err
returns-in-Err-start-clause-left_err g c = λ ta tb d r x y left_x left_y.
    let k = g.D.Disk in
    let j = c.in-Ok.journal in
    let i = c.read.new.journal in
    let t = c.in-Ok.ensures.tells in
    let told = current_tells k.tells j.on_a j.current j.other (t.0.tells_after ta) (t.1.tells_after tb) in
    let holds = c.in-Ok.ensures.holds ta tb r.entries r.opens in
    let kept = c.read.ensures.kept r.entries told holds in
    let told_then = c.read.ensures.quiet.tells_after told in
    let s = c.in-Ok-read.ensures.spelled r.entries told holds in
    let core = c.in-Ok-recover.core in
    let same = gives_too c.args.setting r.entries c.in-Ok-read.records.items d s r.replays ∙ ap (replayed blank) (sym c.deref.ensures.value) ∙ sym (ap (λ (n : State). n.durable) c.in-Ok-recover.ensures.ok.node) in
    let is = c.not_opened-in-Err-start.ensures in
    let moments = at_state (λ set e. Stores k.seen k.may_leave i set e) (λ set e. LeavesOnly k.moment k.left_since i.current c.start.new.journal.current (RestoresEither set (k.seen i.other) e (restarted set e)))
    (core_setting core) c.args.setting (durable_at core) d c.in-Ok-recover.ensures.ok.setting (sym same) (c.start.ensures.any_moment told_then) (record { entries = r.entries; holds = kept; replays = r.replays }) in
    inr (left_behind k.tells k.seen k.may_leave k.moment k.left_since g.met.D.Disk.counts_now i c.start.new.journal c.args.setting d (restarted c.args.setting d) (c.start.ensures.tells.tells_after told_then) c.start.ensures.other kept.other_durable
    moments x y (subst (λ z. k.may_leave z x) (ap (λ z. z.a) is) left_x) (subst (λ z. k.may_leave z y) (ap (λ z. z.b) is) left_y))

pub returns-clause-node : goal.returns-clause-node
returns-clause-node g c =
    let k = g.D.Disk in
    let j = c.in-Ok.journal in
    let t = c.in-Ok.ensures.tells in
    let core = c.in-Ok-recover.core in
    let found = c.in-Ok-recover.ensures.ok in
    let ranged = c.in-Ok-recover.ensures.ranged (subst (λ (xs : List Record). AllByRecursion IsRecord xs) (sym c.deref.ensures.value) c.in-Ok-read.ensures.within) in
    record {
      engine = c.start.ensures.valid;
      setting = subst IsSetting (sym (c.start.ensures.setting ∙ found.setting)) c.requires.setting;
      ranged = subst IsRanged (sym c.in_default.ensures.node) (restarted_ranged (core_setting core) (node_at core) (subst IsSetting (sym found.setting) c.requires.setting) ranged);
      stored = λ live told_end.
          let told_then = c.start.ensures.tells.told_before told_end.0 in
          let told = c.read.ensures.quiet.told_before told_then in
          let told_other = subst (λ z. k.tells z) (c.start.ensures.other ∙ ap (λ z. z.other) c.read.ensures.same) told_end.1 in
          let both = both_tell k.tells j.on_a j.current j.other told told_other in
          let ta = t.0.told_before both.0 in
          let tb = t.1.told_before both.1 in
          let o = c.in-Ok.ensures.opens ta tb in
          let holds = c.in-Ok.ensures.holds ta tb o.0 o.1 in
          let replays = recovered c.args.setting o.0 c.in-Ok-read.records.items c.deref.result.now (durable_at core) (c.in-Ok-read.ensures.spelled o.0 told holds) c.deref.ensures.value found.fit (ap (λ (n : State). n.durable) found.node) in
          let stores = subst (λ (z : Setting). Stores k.seen k.may_leave c.read.new.journal z (durable_at core)) (sym found.setting) (record { entries = o.0; holds = c.read.ensures.kept o.0 told holds; replays = replays }) in
          subst (λ (z : Setting). Stores k.seen k.may_leave c.start.new.journal z (durable_at c.start.new.core)) (sym c.start.ensures.setting)
          (subst (λ (z : State). Stores k.seen k.may_leave c.start.new.journal (core_setting core) z.durable) (sym c.in_default.ensures.node) (c.in_default.ensures.stored told_then stores));
    }

pub returns-clause-restarted : goal.returns-clause-restarted
returns-clause-restarted g c = λ ta tb.
    let j = c.in-Ok.journal in
    let t = c.in-Ok.ensures.tells in
    let told = current_tells g.D.Disk.tells j.on_a j.current j.other (t.0.tells_after ta) (t.1.tells_after tb) in
    let o = c.in-Ok.ensures.opens ta tb in
    let holds = c.in-Ok.ensures.holds ta tb o.0 o.1 in
    let core = c.in-Ok-recover.core in
    let found = c.in-Ok-recover.ensures.ok in
    let replays = recovered c.args.setting o.0 c.in-Ok-read.records.items c.deref.result.now (durable_at core) (c.in-Ok-read.ensures.spelled o.0 told holds) c.deref.ensures.value found.fit (ap (λ (n : State). n.durable) found.node) in
    (durable_at core, record { entries = o.0; opens = o.1; replays = replays }, c.in_default.ensures.left, ap (λ (n : State). n.durable) c.in_default.ensures.node ∙ ap (λ (s : Setting). restarted s (durable_at core)) found.setting)

pub returns-clause-tells : goal.returns-clause-tells
returns-clause-tells g c =
    let k = g.D.Disk in
    let j = c.in-Ok.journal in
    let last = c.start.new.journal in
    let a = c.args.a in
    let b = c.args.b in
    let t = c.in-Ok.ensures.tells in
    let q = c.read.ensures.quiet in
    let s = c.start.ensures in
    let more : TellsOn k.tells j.current last.current =
    record { tells_after = λ told. s.tells.tells_after (q.tells_after told); told_before = λ told. q.told_before (s.tells.told_before told) } in
    subst (λ (on_a : Bool). TellsOn k.tells a (cond on_a last.current last.other) × TellsOn k.tells b (cond on_a last.other last.current)) (sym (s.on_a ∙ ap (λ z. z.on_a) c.read.ensures.same))
    (subst (λ z. TellsOn k.tells a (cond j.on_a last.current z) × TellsOn k.tells b (cond j.on_a z last.current)) (sym (s.other ∙ ap (λ z. z.other) c.read.ensures.same))
    (tell_on k.tells j.on_a j.current j.other last.current a b t.0 t.1 more))

pub returns-in-Err-clause-any_moment_err : goal.returns-in-Err-clause-any_moment_err
returns-in-Err-clause-any_moment_err g c = λ ta tb d r.
    let k = g.D.Disk in
    refused_moments k.tells k.seen k.may_leave k.moment k.left_since g.met.D.Disk.reads_now c.args.setting c.args.a c.args.b d r c.in-Err.refused.a c.in-Err.refused.b (c.in-Err.ensures.tells_err.1.tells_after tb) (c.in-Err.ensures.any_moment_err ta tb)

pub returns-in-Err-read-clause-any_moment_err : goal.returns-in-Err-read-clause-any_moment_err
returns-in-Err-read-clause-any_moment_err g c = λ ta tb d r.
    let k = g.D.Disk in
    let j = c.in-Ok.journal in
    let t = c.in-Ok.ensures.tells in
    let told = current_tells k.tells j.on_a j.current j.other (t.0.tells_after ta) (t.1.tells_after tb) in
    let holds = c.in-Ok.ensures.holds ta tb r.entries r.opens in
    let same = c.read.ensures.same in
    subst (λ z. StartsWithoutLoss k.seen k.may_leave k.moment k.left_since c.args.setting d c.args.a c.args.b z.a z.b) (sym c.not_opened.ensures)
    (started_moments k.tells k.seen k.may_leave k.moment k.left_since g.met.D.Disk.reads_now c.args.setting c.args.a c.args.b d r j c.read.new.journal (t.1.tells_after tb) (ap (λ z. z.other) same) (ap (λ z. z.on_a) same)
    (c.in-Ok.ensures.any_moment ta tb) (λ e. c.in-Ok.ensures.kept_a e ta) holds.other_durable
    (reading k.tells k.seen k.may_leave k.moment k.left_since j c.read.new.journal.current c.args.setting r.entries d (restarted c.args.setting d) holds r.replays (c.read.ensures.quiet.left told)))

pub returns-in-Err-recover-clause-any_moment_err : goal.returns-in-Err-recover-clause-any_moment_err
returns-in-Err-recover-clause-any_moment_err g c = λ ta tb d r.
    let k = g.D.Disk in
    let j = c.in-Ok.journal in
    let t = c.in-Ok.ensures.tells in
    let told = current_tells k.tells j.on_a j.current j.other (t.0.tells_after ta) (t.1.tells_after tb) in
    let holds = c.in-Ok.ensures.holds ta tb r.entries r.opens in
    let same = c.read.ensures.same in
    subst (λ z. StartsWithoutLoss k.seen k.may_leave k.moment k.left_since c.args.setting d c.args.a c.args.b z.a z.b) (sym c.not_opened-in-Err-recover.ensures)
    (started_moments k.tells k.seen k.may_leave k.moment k.left_since g.met.D.Disk.reads_now c.args.setting c.args.a c.args.b d r j c.read.new.journal (t.1.tells_after tb) (ap (λ z. z.other) same) (ap (λ z. z.on_a) same)
    (c.in-Ok.ensures.any_moment ta tb) (λ e. c.in-Ok.ensures.kept_a e ta) holds.other_durable
    (reading k.tells k.seen k.may_leave k.moment k.left_since j c.read.new.journal.current c.args.setting r.entries d (restarted c.args.setting d) holds r.replays (c.read.ensures.quiet.left told)))

pub returns-in-Err-start-clause-any_moment_err : goal.returns-in-Err-start-clause-any_moment_err
returns-in-Err-start-clause-any_moment_err g c = λ ta tb d r.
    let k = g.D.Disk in
    let j = c.in-Ok.journal in
    let i = c.read.new.journal in
    let last = c.start.new.journal in
    let t = c.in-Ok.ensures.tells in
    let told = current_tells k.tells j.on_a j.current j.other (t.0.tells_after ta) (t.1.tells_after tb) in
    let told_then = c.read.ensures.quiet.tells_after told in
    let holds = c.in-Ok.ensures.holds ta tb r.entries r.opens in
    let kept = c.read.ensures.kept r.entries told holds in
    let s = c.in-Ok-read.ensures.spelled r.entries told holds in
    let core = c.in-Ok-recover.core in
    let gives = gives_too c.args.setting r.entries c.in-Ok-read.records.items d s r.replays ∙ ap (replayed blank) (sym c.deref.ensures.value) ∙ sym (ap (λ (n : State). n.durable) c.in-Ok-recover.ensures.ok.node) in
    let same = c.read.ensures.same in
    let moments = at_state (λ set e. Stores k.seen k.may_leave i set e) (λ set e. LeavesOnly k.moment k.left_since i.current last.current (RestoresEither set (k.seen i.other) e (restarted set e)))
    (core_setting core) c.args.setting (durable_at core) d c.in-Ok-recover.ensures.ok.setting (sym gives) (c.start.ensures.any_moment told_then) (record { entries = r.entries; holds = kept; replays = r.replays }) in
    subst (λ z. StartsWithoutLoss k.seen k.may_leave k.moment k.left_since c.args.setting d c.args.a c.args.b z.a z.b) (sym c.not_opened-in-Err-start.ensures)
    (started_moments k.tells k.seen k.may_leave k.moment k.left_since g.met.D.Disk.reads_now c.args.setting c.args.a c.args.b d r j last (t.1.tells_after tb) (c.start.ensures.other ∙ ap (λ z. z.other) same) (c.start.ensures.on_a ∙ ap (λ z. z.on_a) same)
    (c.in-Ok.ensures.any_moment ta tb) (λ e. c.in-Ok.ensures.kept_a e ta) holds.other_durable
    (read_then k.moment k.left_since c.args.setting (k.seen j.other) d j.current i.current last.current
    (reading k.tells k.seen k.may_leave k.moment k.left_since j i.current c.args.setting r.entries d (restarted c.args.setting d) holds r.replays (c.read.ensures.quiet.left told))
    (subst (λ z. LeavesOnly k.moment k.left_since i.current last.current (RestoresEither c.args.setting (k.seen z) d (restarted c.args.setting d))) (ap (λ z. z.other) same) moments)))

pub returns-in-Err-start-clause-full : goal.returns-in-Err-start-clause-full
returns-in-Err-start-clause-full g c = λ is ta tb d r.
    let j = c.in-Ok.journal in
    let i = c.read.new.journal in
    let t = c.in-Ok.ensures.tells in
    let told = current_tells g.D.Disk.tells j.on_a j.current j.other (t.0.tells_after ta) (t.1.tells_after tb) in
    let holds = c.in-Ok.ensures.holds ta tb r.entries r.opens in
    let core = c.in-Ok-recover.core in
    let refused = c.not_opened-in-Err-start.ensures in
    let fault_is : c.in-Err-start.fault ≡ Full = sym (ap (λ x. x.fault) refused) ∙ is in
    let s = c.in-Ok-read.ensures.spelled r.entries told holds in
    let gives = gives_too c.args.setting r.entries c.in-Ok-read.records.items d s r.replays ∙ ap (replayed blank) (sym c.deref.ensures.value) ∙ sym (ap (λ (n : State). n.durable) c.in-Ok-recover.ensures.ok.node) in
    let same = c.in-Err-start.ensures.unchanged (λ device. let other : Full ≡ Device = sym fault_is ∙ device in absurd cc) in
    record {
      journal = i;
      on_a = sym (ap (λ z. z.a) refused ∙ ap disk_a same);
      on_b = sym (ap (λ z. z.b) refused ∙ ap disk_b same);
      stores = record { entries = r.entries; holds = c.read.ensures.kept r.entries told holds; replays = r.replays };
      too_long = subst (λ (s : Setting). IsTooLong i (Some (boot_record s d))) c.in-Ok-recover.ensures.ok.setting (subst (λ (e : Durable). IsTooLong i (Some (boot_record (core_setting core) e))) (sym gives) (c.in-Err-start.ensures.full fault_is));
    }

pub returns-clause-any_moment : goal.returns-clause-any_moment
returns-clause-any_moment g c = λ ta tb d r.
    let k = g.D.Disk in
    let j = c.in-Ok.journal in
    let i = c.read.new.journal in
    let last = c.start.new.journal in
    let t = c.in-Ok.ensures.tells in
    let told = current_tells k.tells j.on_a j.current j.other (t.0.tells_after ta) (t.1.tells_after tb) in
    let told_then = c.read.ensures.quiet.tells_after told in
    let holds = c.in-Ok.ensures.holds ta tb r.entries r.opens in
    let kept = c.read.ensures.kept r.entries told holds in
    let s = c.in-Ok-read.ensures.spelled r.entries told holds in
    let core = c.in-Ok-recover.core in
    let gives = gives_too c.args.setting r.entries c.in-Ok-read.records.items d s r.replays ∙ ap (replayed blank) (sym c.deref.ensures.value) ∙ sym (ap (λ (n : State). n.durable) c.in-Ok-recover.ensures.ok.node) in
    let same = c.read.ensures.same in
    let moments = at_state (λ set e. Stores k.seen k.may_leave i set e) (λ set e. LeavesOnly k.moment k.left_since i.current last.current (RestoresEither set (k.seen i.other) e (restarted set e)))
    (core_setting core) c.args.setting (durable_at core) d c.in-Ok-recover.ensures.ok.setting (sym gives) (c.start.ensures.any_moment told_then) (record { entries = r.entries; holds = kept; replays = r.replays }) in
    started_moments k.tells k.seen k.may_leave k.moment k.left_since g.met.D.Disk.reads_now c.args.setting c.args.a c.args.b d r j last (t.1.tells_after tb) (c.start.ensures.other ∙ ap (λ z. z.other) same) (c.start.ensures.on_a ∙ ap (λ z. z.on_a) same)
    (c.in-Ok.ensures.any_moment ta tb) (λ e. c.in-Ok.ensures.kept_a e ta) holds.other_durable
    (read_then k.moment k.left_since c.args.setting (k.seen j.other) d j.current i.current last.current
    (reading k.tells k.seen k.may_leave k.moment k.left_since j i.current c.args.setting r.entries d (restarted c.args.setting d) holds r.replays (c.read.ensures.quiet.left told))
    (subst (λ z. LeavesOnly k.moment k.left_since i.current last.current (RestoresEither c.args.setting (k.seen z) d (restarted c.args.setting d))) (ap (λ z. z.other) same) moments))

pub returns-in-Err-clause-unstarted : goal.returns-in-Err-clause-unstarted
returns-in-Err-clause-unstarted g c = λ other ta tb d r.
    let k = g.D.Disk in
    let t = c.in-Err.ensures.tells_err in
    refused_unstarted k.tells k.seen k.may_leave k.moment k.left_since g.met.D.Disk.counts_now c.args.setting c.args.a c.args.b c.in-Err.refused.a c.in-Err.refused.b (t.0.tells_after ta) (t.1.tells_after tb) d r (c.in-Err.ensures.any_moment_err ta tb)

pub returns-in-Err-read-clause-unstarted : goal.returns-in-Err-read-clause-unstarted
returns-in-Err-read-clause-unstarted g c = λ other ta tb d r x y left_x left_y.
    let k = g.D.Disk in
    let j = c.in-Ok.journal in
    let t = c.in-Ok.ensures.tells in
    let told = current_tells k.tells j.on_a j.current j.other (t.0.tells_after ta) (t.1.tells_after tb) in
    let holds = c.in-Ok.ensures.holds ta tb r.entries r.opens in
    let q = c.read.ensures.quiet in
    let is = c.not_opened.ensures in
    inr (either_same (left_behind k.tells k.seen k.may_leave k.moment k.left_since g.met.D.Disk.counts_now j c.read.new.journal c.args.setting d d (q.tells_after told) (ap (λ z. z.other) c.read.ensures.same) holds.other_durable
    (reading k.tells k.seen k.may_leave k.moment k.left_since j c.read.new.journal.current c.args.setting r.entries d d holds r.replays (q.left told)) x y
    (subst (λ z. k.may_leave z x) (ap (λ z. z.a) is) left_x) (subst (λ z. k.may_leave z y) (ap (λ z. z.b) is) left_y)))

pub returns-in-Err-recover-clause-unstarted : goal.returns-in-Err-recover-clause-unstarted
returns-in-Err-recover-clause-unstarted g c = λ other ta tb d r x y left_x left_y.
    let k = g.D.Disk in
    let j = c.in-Ok.journal in
    let t = c.in-Ok.ensures.tells in
    let told = current_tells k.tells j.on_a j.current j.other (t.0.tells_after ta) (t.1.tells_after tb) in
    let holds = c.in-Ok.ensures.holds ta tb r.entries r.opens in
    let q = c.read.ensures.quiet in
    let is = c.not_opened-in-Err-recover.ensures in
    inr (either_same (left_behind k.tells k.seen k.may_leave k.moment k.left_since g.met.D.Disk.counts_now j c.read.new.journal c.args.setting d d (q.tells_after told) (ap (λ z. z.other) c.read.ensures.same) holds.other_durable
    (reading k.tells k.seen k.may_leave k.moment k.left_since j c.read.new.journal.current c.args.setting r.entries d d holds r.replays (q.left told)) x y
    (subst (λ z. k.may_leave z x) (ap (λ z. z.a) is) left_x) (subst (λ z. k.may_leave z y) (ap (λ z. z.b) is) left_y)))

pub returns-in-Err-start-clause-unstarted : goal.returns-in-Err-start-clause-unstarted
returns-in-Err-start-clause-unstarted g c = λ other ta tb d r x y left_x left_y.
    let k = g.D.Disk in
    let j = c.in-Ok.journal in
    let i = c.read.new.journal in
    let t = c.in-Ok.ensures.tells in
    let told = current_tells k.tells j.on_a j.current j.other (t.0.tells_after ta) (t.1.tells_after tb) in
    let holds = c.in-Ok.ensures.holds ta tb r.entries r.opens in
    let q = c.read.ensures.quiet in
    let is = c.not_opened-in-Err-start.ensures in
    let same = c.in-Err-start.ensures.unchanged (λ device. other (ap (λ z. z.fault) is ∙ device)) in
    inr (either_same (left_behind k.tells k.seen k.may_leave k.moment k.left_since g.met.D.Disk.counts_now j i c.args.setting d d (q.tells_after told) (ap (λ z. z.other) c.read.ensures.same) holds.other_durable
    (reading k.tells k.seen k.may_leave k.moment k.left_since j i.current c.args.setting r.entries d d holds r.replays (q.left told)) x y
    (subst (λ z. k.may_leave z x) (ap (λ z. z.a) is ∙ ap disk_a same) left_x) (subst (λ z. k.may_leave z y) (ap (λ z. z.b) is ∙ ap disk_b same) left_y)))

pub returns-in-Err-clause-unchanged : goal.returns-in-Err-clause-unchanged
returns-in-Err-clause-unchanged g c = λ is ta tb none. c.in-Err.ensures.unchanged (was_damaged c.in-Err.refused.fault (sym c.open_fault.ensures ∙ is))

pub returns-in-Err-read-clause-unchanged : goal.returns-in-Err-read-clause-unchanged
returns-in-Err-read-clause-unchanged g c = λ is ta tb none. let o = c.in-Ok.ensures.opens ta tb in absurd (none o.0 o.1)

pub returns-in-Err-recover-clause-unchanged : goal.returns-in-Err-recover-clause-unchanged
returns-in-Err-recover-clause-unchanged g c = λ is ta tb none. let o = c.in-Ok.ensures.opens ta tb in absurd (none o.0 o.1)

pub returns-in-Err-start-clause-unchanged : goal.returns-in-Err-start-clause-unchanged
returns-in-Err-start-clause-unchanged g c = λ is ta tb none. let o = c.in-Ok.ensures.opens ta tb in absurd (none o.0 o.1)

pub returns-in-Err-clause-entries : goal.returns-in-Err-clause-entries
returns-in-Err-clause-entries g c = λ other ta tb entries opens.
    ⊎_elim (λ damaged. absurd (c.in-Err.ensures.damaged damaged ta tb entries opens)) (λ device. absurd (other (c.open_fault.ensures ∙ ap open_fault device))) c.in-Err.ensures.fault

pub returns-in-Err-read-clause-entries : goal.returns-in-Err-read-clause-entries
returns-in-Err-read-clause-entries g c = λ other ta tb entries opens.
    let k = g.D.Disk in
    let j = c.in-Ok.journal in
    let i = c.read.new.journal in
    let t = c.in-Ok.ensures.tells in
    let told = current_tells k.tells j.on_a j.current j.other (t.0.tells_after ta) (t.1.tells_after tb) in
    let is = c.not_opened.ensures in
    record {
      journal = i;
      on_a = sym (ap (λ z. z.a) is);
      on_b = sym (ap (λ z. z.b) is);
      holds = c.read.ensures.kept entries told (c.in-Ok.ensures.holds ta tb entries opens);
    }

pub returns-in-Err-recover-clause-entries : goal.returns-in-Err-recover-clause-entries
returns-in-Err-recover-clause-entries g c = λ other ta tb entries opens.
    let k = g.D.Disk in
    let j = c.in-Ok.journal in
    let i = c.read.new.journal in
    let t = c.in-Ok.ensures.tells in
    let told = current_tells k.tells j.on_a j.current j.other (t.0.tells_after ta) (t.1.tells_after tb) in
    let is = c.not_opened-in-Err-recover.ensures in
    record {
      journal = i;
      on_a = sym (ap (λ z. z.a) is);
      on_b = sym (ap (λ z. z.b) is);
      holds = c.read.ensures.kept entries told (c.in-Ok.ensures.holds ta tb entries opens);
    }

pub returns-in-Err-start-clause-entries : goal.returns-in-Err-start-clause-entries
returns-in-Err-start-clause-entries g c = λ other ta tb entries opens.
    let k = g.D.Disk in
    let j = c.in-Ok.journal in
    let i = c.read.new.journal in
    let t = c.in-Ok.ensures.tells in
    let told = current_tells k.tells j.on_a j.current j.other (t.0.tells_after ta) (t.1.tells_after tb) in
    let is = c.not_opened-in-Err-start.ensures in
    let same = c.in-Err-start.ensures.unchanged (λ device. other (ap (λ z. z.fault) is ∙ device)) in
    record {
      journal = i;
      on_a = sym (ap (λ z. z.a) is ∙ ap disk_a same);
      on_b = sym (ap (λ z. z.b) is ∙ ap disk_b same);
      holds = c.read.ensures.kept entries told (c.in-Ok.ensures.holds ta tb entries opens);
    }

pub returns-clause-added : goal.returns-clause-added
returns-clause-added g c = λ ta tb d r.
    let k = g.D.Disk in
    let j = c.in-Ok.journal in
    let i = c.read.new.journal in
    let t = c.in-Ok.ensures.tells in
    let told = current_tells k.tells j.on_a j.current j.other (t.0.tells_after ta) (t.1.tells_after tb) in
    let last = c.start.new.journal in
    let set = c.args.setting in
    let holds = c.in-Ok.ensures.holds ta tb r.entries r.opens in
    let core = c.in-Ok-recover.core in
    let found = c.in-Ok-recover.ensures.ok in
    let s = c.in-Ok-read.ensures.spelled r.entries told holds in
    let gives = gives_too set r.entries c.in-Ok-read.records.items d s r.replays ∙ ap (replayed blank) (sym c.deref.ensures.value) ∙ sym (ap (λ (n : State). n.durable) found.node) in
    let boot_is : boot_record (core_setting core) (durable_at core) ≡ boot_record set d = ap (λ (x : Setting). boot_record x (durable_at core)) found.setting ∙ ap (boot_record set) (sym gives) in
    let more = subst (λ (x : Record). HasAdded i last (Some x)) boot_is c.in_default.ensures.added in
    let same = c.read.ensures.same in
    record {
      opened = j;
      holds_opened = holds;
      moments = c.in-Ok.ensures.any_moment ta tb;
      added = record { end = more.end ∙ ap (λ (n : ℕ). n + 5 + length (spelling (boot_record set d))) (ap (λ z. z.end) same); generation = more.generation ∙ ap (λ z. z.generation) same };
      holds = subst (λ (x : Record). Holds k.seen k.may_leave last (r.entries ++ spelling x ∷ [])) boot_is (c.in_default.ensures.holds r.entries (c.read.ensures.quiet.tells_after told) (c.read.ensures.kept r.entries told holds));
    }

pub returns-clause-restored : goal.returns-clause-restored
returns-clause-restored g c = λ ta tb entries opens.
    let k = g.D.Disk in
    let j = c.in-Ok.journal in
    let t = c.in-Ok.ensures.tells in
    let told = current_tells k.tells j.on_a j.current j.other (t.0.tells_after ta) (t.1.tells_after tb) in
    c.len-restored.ensures ∙ c.in-Ok-read.records.ok.0 ∙ spell_length entries c.in-Ok-read.records.items (c.in-Ok-read.ensures.spelled entries told (c.in-Ok.ensures.holds ta tb entries opens))
