use Rattle.std.proofs.Common.{◌≡◌, List, ℕ, drop, refl, rules}
use Rattle.std.proofs.lemmas.Result.{IfOk-weaker}
use Rattle.sv_journal.specs.Journal.{JournalView, Holds}
use Rattle.sv_journal.specs.Format.{HasEntries, payloads}
use Rattle.sv_journal.proofs.EntryLemmas.{one_list}
use Rattle.sv_journal.proofs.Appending.{live_part, kept_quiet}
use Rattle.sv_journal.proofs.journal.Journal.records.Goals as goal

pub returns-clause-entries : goal.returns-clause-entries
returns-clause-entries g c = rw (← c.self.view_is) (
    let d = g.D.Disk in
    let i = c.self.inside in
    let old : JournalView g.row.D.Denot = record { current = i.current; other = i.other; on_a = i.on_a; generation = i.generation; end = i.end; len = i.len; live = i.is_live } in
    let behind = drop 16 (d.seen i.current) in
    IfOk-weaker c.read_entries.result
    (λ found. d.tells i.current → HasEntries behind (payloads found.items))
    (λ found. (entries : List (List ℕ)) → d.tells i.current → Holds d.seen d.may_leave old entries → payloads found.items ≡ entries)
    (λ found has entries told holds. one_list behind (payloads found.items) entries (has told) (live_part d.seen d.may_leave old entries holds.keeps))
    c.read_entries.ensures.entries)

pub returns-clause-damaged : goal.returns-clause-damaged
returns-clause-damaged g c = rw (← c.self.view_is) (λ e told.
    let d = g.D.Disk in
    let i = c.self.inside in
    let old : JournalView g.row.D.Denot = record { current = i.current; other = i.other; on_a = i.on_a; generation = i.generation; end = i.end; len = i.len; live = i.is_live } in
    let some = c.self.invariant.keeps (search rules) told in
    c.read_entries.ensures.damaged e told some.0 (live_part d.seen d.may_leave old some.0 some.1))

pub returns-clause-kept : goal.returns-clause-kept
returns-clause-kept g c = rw (← c.self.view_is) (λ entries told holds.
    let d = g.D.Disk in
    let i = c.self.inside in
    let q = c.read_entries.ensures.quiet in
    let old : JournalView g.row.D.Denot = record { current = i.current; other = i.other; on_a = i.on_a; generation = i.generation; end = i.end; len = i.len; live = i.is_live } in
    let next : JournalView g.row.D.Denot = record { current = c.read_entries.new.disk; other = i.other; on_a = i.on_a; generation = i.generation; end = i.end; len = i.len; live = i.is_live } in
    let h : Holds d.seen d.may_leave old entries = holds in
    record { keeps = kept_quiet d.seen d.may_leave old entries h.keeps next q.same (q.stop told) refl refl refl; older = h.older; other_durable = h.other_durable })
