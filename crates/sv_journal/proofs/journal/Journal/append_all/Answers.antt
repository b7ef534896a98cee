use Rattle.std.proofs.Common.{◌≡◌, ◌+◌, ◌<◌, List, ℕ, ◌++◌, length, true, refl, sym, ◌∙◌, ap, subst, arith, rules}
use Rattle.std.proofs.lemmas.List.{append-nil}
use Rattle.sv_journal.specs.Journal.{JournalView, Keeps, Holds}
use Rattle.sv_journal.specs.Ahead.{IsLengthened}
use Rattle.sv_journal.specs.Format.{front, OpensEither}
use Rattle.sv_journal.proofs.Appending.{none_staged, rests, gate_within, kept, grown, behind_gate, moments}
use Rattle.sv_journal.proofs.Laying.{ready_keeps, either}
use Rattle.sv_journal.proofs.Quiet.{leaves_weaker, leaves_then}
use Rattle.sv_journal.proofs.journal.Journal.append_all.Goals as goal

pub commit-requires-clause-within : goal.commit-requires-clause-within
commit-requires-clause-within g c = λ told.
    let d = g.D.Disk in
    let i = c.self.inside in
    let old : JournalView g.row.D.Denot = record { current = i.current; other = i.other; on_a = i.on_a; generation = i.generation; end = i.end; len = i.len; live = i.is_live } in
    let mid : JournalView g.row.D.Denot = record { current = c.make_ready.new.disk; other = i.other; on_a = i.on_a; generation = i.generation; end = i.end; len = c.in_ok-len.len; live = i.is_live } in
    let told_before = c.make_ready.ensures.tells.told_before told in
    let some = c.self.invariant.keeps (search rules) told_before in
    gate_within d.seen d.may_leave mid some.0 (ready_keeps d.seen d.may_leave old some.0 some.1 mid (c.in_ok-len.ensures.ready told_before some.1.durable) refl refl)

pub returns-in_err-len-clause-any_moment : goal.returns-in_err-len-clause-any_moment
returns-in_err-len-clause-any_moment g c = rw (← c.self.view_is) (λ before entries told holds stages.
    let d = g.D.Disk in
    let i = c.self.inside in
    let old : JournalView g.row.D.Denot = record { current = i.current; other = i.other; on_a = i.on_a; generation = i.generation; end = i.end; len = i.len; live = i.is_live } in
    let h : Holds d.seen d.may_leave old before = holds in
    let k = h.keeps in
    leaves_weaker d.moment d.left_since i.current c.make_ready.new.disk (IsLengthened (d.seen i.current)) (OpensEither (d.seen i.other) before (before ++ entries))
    (λ image l. either d.seen d.may_leave old before k (d.seen i.other) (before ++ entries) image h.older l)
    (c.make_ready.ensures.any_moment told k.durable))

pub returns-then-is_empty-clause-added : goal.returns-then-is_empty-clause-added
returns-then-is_empty-clause-added g c = λ before entries told holds stages.
    let d = g.D.Disk in
    let few : length c.behind_gate-bytes.result.now ≡ 0 = search (rules, arith) in
    let none = none_staged c.args.batch.now entries stages (ap length (sym c.behind_gate-bytes.ensures.bytes) ∙ few) in
    subst (λ (es : List (List ℕ)). Holds d.seen d.may_leave c.args.self.now es) (sym (ap (λ (es : List (List ℕ)). before ++ es) none ∙ append-nil before)) holds

pub returns-in_err-commit-clause-added : goal.returns-in_err-commit-clause-added
returns-in_err-commit-clause-added g c = search rules

pub returns-in_err-commit-clause-any_moment : goal.returns-in_err-commit-clause-any_moment
returns-in_err-commit-clause-any_moment g c = rw (← c.self.view_is) (λ before entries told holds stages.
    let d = g.D.Disk in
    let i = c.self.inside in
    let old : JournalView g.row.D.Denot = record { current = i.current; other = i.other; on_a = i.on_a; generation = i.generation; end = i.end; len = i.len; live = i.is_live } in
    let mid : JournalView g.row.D.Denot = record { current = c.make_ready.new.disk; other = i.other; on_a = i.on_a; generation = i.generation; end = i.end; len = c.in_ok-len.len; live = i.is_live } in
    let h : Holds d.seen d.may_leave old before = holds in
    let k = h.keeps in
    let bytes = c.behind_gate-bytes.result.now in
    let some : 0 < length bytes = search (rules, arith) in
    let staged = behind_gate c.args.batch.now entries bytes stages c.behind_gate-bytes.ensures.bytes some in
    let m = ready_keeps d.seen d.may_leave old before k mid (c.in_ok-len.ensures.ready told k.durable) refl refl in
    leaves_then d.moment d.left_since i.current c.make_ready.new.disk c.commit.new.disk (IsLengthened (d.seen i.current)) (OpensEither (d.seen i.other) before (before ++ entries)) (OpensEither (d.seen i.other) before (before ++ entries))
    (λ image l. either d.seen d.may_leave old before k (d.seen i.other) (before ++ entries) image h.older l) (λ image q. q)
    (c.make_ready.ensures.any_moment told k.durable)
    (moments d.seen d.may_leave mid before m entries stages.payloads bytes staged d.moment d.left_since (d.seen i.other) c.commit.new.disk h.older
    (c.commit.ensures.any_moment (front i.generation before) m.image.rest m.image.gate (c.make_ready.ensures.tells.tells_after told) (rests d.seen d.may_leave mid before m) (sym m.end_is))))

pub returns-clause-any_moment : goal.returns-clause-any_moment
returns-clause-any_moment g c = rw (← c.self.view_is) (λ before entries told holds stages.
    let d = g.D.Disk in
    let i = c.self.inside in
    let old : JournalView g.row.D.Denot = record { current = i.current; other = i.other; on_a = i.on_a; generation = i.generation; end = i.end; len = i.len; live = i.is_live } in
    let mid : JournalView g.row.D.Denot = record { current = c.make_ready.new.disk; other = i.other; on_a = i.on_a; generation = i.generation; end = i.end; len = c.in_ok-len.len; live = i.is_live } in
    let h : Holds d.seen d.may_leave old before = holds in
    let k = h.keeps in
    let bytes = c.behind_gate-bytes.result.now in
    let some : 0 < length bytes = search (rules, arith) in
    let staged = behind_gate c.args.batch.now entries bytes stages c.behind_gate-bytes.ensures.bytes some in
    let m = ready_keeps d.seen d.may_leave old before k mid (c.in_ok-len.ensures.ready told k.durable) refl refl in
    leaves_then d.moment d.left_since i.current c.make_ready.new.disk c.commit.new.disk (IsLengthened (d.seen i.current)) (OpensEither (d.seen i.other) before (before ++ entries)) (OpensEither (d.seen i.other) before (before ++ entries))
    (λ image l. either d.seen d.may_leave old before k (d.seen i.other) (before ++ entries) image h.older l) (λ image q. q)
    (c.make_ready.ensures.any_moment told k.durable)
    (moments d.seen d.may_leave mid before m entries stages.payloads bytes staged d.moment d.left_since (d.seen i.other) c.commit.new.disk h.older
    (c.commit.ensures.any_moment (front i.generation before) m.image.rest m.image.gate (c.make_ready.ensures.tells.tells_after told) (rests d.seen d.may_leave mid before m) (sym m.end_is))))

pub returns-clause-added : goal.returns-clause-added
returns-clause-added g c = rw (← c.self.view_is) (λ before entries told holds stages.
    let d = g.D.Disk in
    let i = c.self.inside in
    let old : JournalView g.row.D.Denot = record { current = i.current; other = i.other; on_a = i.on_a; generation = i.generation; end = i.end; len = i.len; live = i.is_live } in
    let mid : JournalView g.row.D.Denot = record { current = c.make_ready.new.disk; other = i.other; on_a = i.on_a; generation = i.generation; end = i.end; len = c.in_ok-len.len; live = i.is_live } in
    let next : JournalView g.row.D.Denot = record { current = c.commit.new.disk; other = i.other; on_a = i.on_a; generation = i.generation; end = i.end + length c.behind_gate-bytes.result.now; len = c.max-self-inside.result; live = true } in
    let h : Holds d.seen d.may_leave old before = holds in
    let k = h.keeps in
    let bytes = c.behind_gate-bytes.result.now in
    let some : 0 < length bytes = search (rules, arith) in
    let staged = behind_gate c.args.batch.now entries bytes stages c.behind_gate-bytes.ensures.bytes some in
    let m = ready_keeps d.seen d.may_leave old before k mid (c.in_ok-len.ensures.ready told k.durable) refl refl in
    let settled = c.in_ok-commit.ensures.added (front i.generation before) m.image.rest m.image.gate (c.make_ready.ensures.tells.tells_after told) (rests d.seen d.may_leave mid before m) (sym m.end_is) in
    record {
      keeps = kept d.seen d.may_leave mid before m entries stages.payloads bytes staged next settled refl (grown entries bytes i.end next.end staged (search (rules, arith))) c.max-self-inside.ensures;
      older = h.older;
      other_durable = h.other_durable;
    })

pub invariant_of-self-2 : goal.invariant_of-self-2
invariant_of-self-2 g c =
    let d = g.D.Disk in
    let i = c.self.inside in
    let old : JournalView g.row.D.Denot = record { current = i.current; other = i.other; on_a = i.on_a; generation = i.generation; end = i.end; len = i.len; live = i.is_live } in
    let mid : JournalView g.row.D.Denot = record { current = c.make_ready.new.disk; other = i.other; on_a = i.on_a; generation = i.generation; end = i.end; len = c.in_ok-len.len; live = i.is_live } in
    let next : JournalView g.row.D.Denot = record { current = c.commit.new.disk; other = i.other; on_a = i.on_a; generation = i.generation; end = i.end + length c.behind_gate-bytes.result.now; len = c.max-self-inside.result; live = true } in
    record {
      behind_header = omega arith;
      within = omega (arith, c.max-self-inside.ensures);
      keeps = λ live told.
          let told_mid = c.commit.ensures.tells.told_before told in
          let told_before = c.make_ready.ensures.tells.told_before told_mid in
          let some_entries = c.self.invariant.keeps (search rules) told_before in
          let before = some_entries.0 in
          let k : Keeps d.seen d.may_leave old before = some_entries.1 in
          let entries = c.requires.0 in
          let stages = c.requires.1 in
          let bytes = c.behind_gate-bytes.result.now in
          let some : 0 < length bytes = search (rules, arith) in
          let staged = behind_gate c.args.batch.now entries bytes stages c.behind_gate-bytes.ensures.bytes some in
          let m = ready_keeps d.seen d.may_leave old before k mid (c.in_ok-len.ensures.ready told_before k.durable) refl refl in
          let settled = c.in_ok-commit.ensures.added (front i.generation before) m.image.rest m.image.gate told_mid (rests d.seen d.may_leave mid before m) (sym m.end_is) in
          (before ++ entries, kept d.seen d.may_leave mid before m entries stages.payloads bytes staged next settled refl (grown entries bytes i.end next.end staged (search (rules, arith))) c.max-self-inside.ensures);
    }
