use Rattle.std.proofs.Common.{◌≡◌, ◌∙◌, List, ℕ, map, refl, sym, subst, ap}
use Rattle.std.proofs.lemmas.Result.{on_ok_weaker}
use Rattle.sv_node.proofs.Prelude.{LeavesOnly, payloads, OpensReplaced, spelling, written, RestoresBeside, Spell, Replays}
use Rattle.sv_node.proofs.CompactionLemmas.{written_turned, written_stayed, replacing, unmoved, unmoved_entries, by_answer, ok_both}
use Rattle.sv_node.proofs.compaction.replace.Goals as goal

pub returns-in_err-found-clause-any_moment : goal.returns-in_err-found-clause-any_moment
returns-in_err-found-clause-any_moment g c = λ set d told is s.
    let k = g.D.Disk in
    let j = c.args.journal.now in
    subst (λ z. LeavesOnly k.moment k.left_since j.other z (RestoresBeside set (k.seen j.current) d)) (sym (written_stayed j j refl))
    (unmoved k.tells k.seen k.may_leave k.moment k.left_since g.met.D.Disk.only_now j set d told s)

pub returns-clause-any_moment : goal.returns-clause-any_moment
returns-clause-any_moment g c = λ set d told is s.
    let k = g.D.Disk in
    let j = c.args.journal.now in
    let last = c.compact.new.self in
    let e = c.compact.ensures in
    let after = payloads c.deref.result.now in
    let spelled = subst (λ vs. Spell (payloads vs) c.args.records.now) (sym c.deref.ensures.value) c.in_ok-found.ensures.spelled in
    let replays : Replays set after d = record { records = c.args.records.now; spelled = spelled; fit = is.fit; gives = is.gives } in
    by_answer c.compact.result e.any_moment e.on_a e.any_moment_err e.on_a_err
    (λ left on_a. subst (λ z. LeavesOnly k.moment k.left_since j.other z (RestoresBeside set (k.seen j.current) d)) (sym (written_turned j last on_a))
    (replacing k.tells k.seen k.may_leave k.moment k.left_since j last.current set s.entries after d s.replays replays (left s.entries told s.holds)))
    (λ left on_a. subst (λ z. LeavesOnly k.moment k.left_since j.other z (RestoresBeside set (k.seen j.current) d)) (sym (written_stayed j last on_a))
    (replacing k.tells k.seen k.may_leave k.moment k.left_since j last.other set s.entries after d s.replays replays (left s.entries told s.holds)))

pub returns-clause-stored : goal.returns-clause-stored
returns-clause-stored g c =
    let after = payloads c.deref.result.now in
    let spelled = subst (λ vs. Spell (payloads vs) c.args.records.now) (sym c.deref.ensures.value) c.in_ok-found.ensures.spelled in
    on_ok_weaker c.compact.result (λ replaced set d told is s. record {
      entries = after;
      holds = replaced s.entries told s.holds;
      replays = record { records = c.args.records.now; spelled = spelled; fit = is.fit; gives = is.gives };
    }) c.compact.ensures.replaced

pub returns-clause-turned : goal.returns-clause-turned
returns-clause-turned g c = ok_both c.compact.result (λ generation on_a. record { generation = generation; on_a = on_a }) c.compact.ensures.generation c.compact.ensures.on_a

pub returns-in_err-found-clause-writes : goal.returns-in_err-found-clause-writes
returns-in_err-found-clause-writes g c = λ told.
    let k = g.D.Disk in
    unmoved_entries k.tells k.seen k.may_leave k.moment k.left_since g.met.D.Disk.only_now c.args.journal.now c.args.records.now told

pub returns-clause-writes : goal.returns-clause-writes
returns-clause-writes g c = λ told entries holds.
    let k = g.D.Disk in
    let j = c.args.journal.now in
    let last = c.compact.new.self in
    let e = c.compact.ensures in
    let records_are : payloads c.deref.result.now ≡ map spelling c.args.records.now = ap payloads c.deref.ensures.value ∙ c.in_ok-found.ensures.bytes in
    subst (λ (after : List (List ℕ)). LeavesOnly k.moment k.left_since j.other (written j last) (OpensReplaced (k.seen j.current) entries after)) records_are
    (by_answer c.compact.result e.any_moment e.on_a e.any_moment_err e.on_a_err
    (λ left on_a. subst (λ z. LeavesOnly k.moment k.left_since j.other z (OpensReplaced (k.seen j.current) entries (payloads c.deref.result.now))) (sym (written_turned j last on_a)) (left entries told holds))
    (λ left on_a. subst (λ z. LeavesOnly k.moment k.left_since j.other z (OpensReplaced (k.seen j.current) entries (payloads c.deref.result.now))) (sym (written_stayed j last on_a)) (left entries told holds)))
