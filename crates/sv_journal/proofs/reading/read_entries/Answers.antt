use Rattle.std.proofs.Common.{◌≡◌, ℕ, List, [], take, drop, ap, ◌∙◌, refl, sym, subst, arith, rules}
use Rattle.sv_journal.specs.Format.{Begins, payloads}
use Rattle.sv_journal.specs.Reading.{Gathers}
use Rattle.std.specs.Prelude.{Some, None}
use Rattle.sv_journal.proofs.EntryLemmas.{begins_none}
use Rattle.sv_journal.proofs.ReadingLemmas.{piece_is, disk_stuck, disk_ends, disk_on}
use Rattle.sv_journal.proofs.Quiet.{quiet_then}
use Rattle.sv_journal.proofs.reading.read_entries.Goals as goal

pub loop-entries-init : goal.loop-entries-init
loop-entries-init g c =
    record {
      quiet = search rules;
      count = refl;
      within = omega (arith, c.requires.long);
      room = search rules;
      begins = λ told. let none : payloads c.new-entries.result.items ≡ [] = ap payloads c.new-entries.ensures.items in
          subst (λ (es : List (List ℕ)). Begins (drop 16 (g.D.Disk.seen c.args.disk.now)) es (drop 16 (g.D.Disk.seen c.args.disk.now))) (sym none) (begins_none (drop 16 (g.D.Disk.seen c.args.disk.now)));
    }

pub returns-in_err-taken-clause-damaged : goal.returns-in_err-taken-clause-damaged
returns-in_err-taken-clause-damaged g c = λ e told.
    let i = c.loop-entries.invariant in
    let at = c.loop-entries.at in
    let seen = g.D.Disk.seen c.args.disk.now in
    let k = c.min-count.result in
    let is : c.deref.result.now ≡ take k (drop at seen) = piece_is c.deref.result.now c.refill.new.buffer.items seen (g.D.Disk.seen c.loop-entries.disk) k at c.deref.ensures.value (c.in_ok-refill.ensures.bytes (i.quiet.tells_after told)) i.quiet.same in
    disk_stuck seen c.deref.result.now (drop 16 seen) (payloads c.loop-entries.entries.items) c.args.len at k (c.requires.sized told) is (i.begins told) (c.gather.ensures.damaged (search rules))

pub loop-entries-preserved : goal.loop-entries-preserved
loop-entries-preserved g c =
    let d = g.D.Disk in
    let i = c.loop-entries.invariant in
    let at = c.loop-entries.at in
    let seen = d.seen c.args.disk.now in
    let k = c.min-count.result in
    let found : Gathers c.deref.result.now (payloads c.loop-entries.entries.items) (payloads c.gather.new.entries.items) (Some c.in-Some.taken) = rw c.in-Some.is at c.in_ok-taken.ensures.gathers in
    record {
      quiet = quiet_then d.tells d.seen d.may_leave d.moment d.left_since g.met.D.Disk.only_now c.args.disk.now c.loop-entries.disk c.refill.new.disk i.quiet c.refill.ensures.quiet;
      count = c.in_ok-refill.ensures.count ∙ i.count;
      within = omega (arith, i.within, found.1, c.deref.ensures.len, c.refill.ensures.len, c.min-count.ensures);
      room = omega (arith, i.within, c.refill.ensures.len, c.min-count.ensures);
      begins = λ told.
          let is : c.deref.result.now ≡ take k (drop at seen) = piece_is c.deref.result.now c.refill.new.buffer.items seen (g.D.Disk.seen c.loop-entries.disk) k at c.deref.ensures.value (c.in_ok-refill.ensures.bytes (i.quiet.tells_after told)) i.quiet.same in
          disk_on seen c.deref.result.now (drop 16 seen) (payloads c.loop-entries.entries.items) c.args.len at k (c.requires.sized told) is (i.begins told) (payloads c.gather.new.entries.items) c.in-Some.taken found.1 found.2;
    }

pub returns-in-None-clause-entries : goal.returns-in-None-clause-entries
returns-in-None-clause-entries g c = λ told.
    let i = c.loop-entries.invariant in
    let at = c.loop-entries.at in
    let seen = g.D.Disk.seen c.args.disk.now in
    let k = c.min-count.result in
    let is : c.deref.result.now ≡ take k (drop at seen) = piece_is c.deref.result.now c.refill.new.buffer.items seen (g.D.Disk.seen c.loop-entries.disk) k at c.deref.ensures.value (c.in_ok-refill.ensures.bytes (i.quiet.tells_after told)) i.quiet.same in
    let found : Gathers c.deref.result.now (payloads c.loop-entries.entries.items) (payloads c.gather.new.entries.items) None = rw c.in-None.is at c.in_ok-taken.ensures.gathers in
    disk_ends seen c.deref.result.now (drop 16 seen) (payloads c.loop-entries.entries.items) c.args.len at k (c.requires.sized told) is (i.begins told) (payloads c.gather.new.entries.items) found
