use Rattle.std.proofs.Common.{◌≡◌, ◌∙◌, List, OnOk, IsTrue, refl, sym, subst}
use Rattle.std.specs.List.{All}
use Rattle.sv_node.proofs.Prelude.{snapshot_of, Record, IsRecord, len_with, HasNoRoom, LeavesReplaced, setting_of, state_of, durable_of, Give}
use Rattle.sv_journal.specs.declared.journal_fault.JournalFault.TheVariants.{Memory}
use Rattle.sv_node.specs.declared.node.Node.{Node}
use Rattle.sv_node.proofs.CompactionLemmas.{snapshot_ranged, snapshot_is, compaction_ends, stored_behind, compacting, nothing_done}
use Rattle.sv_node.proofs.node.Node.compact.Goals as goal

pub returns-in_default-clause-compaction : goal.returns-in_default-clause-compaction
returns-in_default-clause-compaction g c =
    let e = g.E.Engine in
    let d = g.D.Disk in
    nothing_done e.valid e.meaning e.heard d.tells d.seen d.may_leave d.moment d.left_since d.failed g.met.D.Disk.counts_now g.met.D.Disk.only_now c.args.self.now Memory c.requires.valid (record { view = refl; journal = refl }) (λ dead. absurd cc)

pub replace-requires-clause-ranges : goal.replace-requires-clause-ranges
replace-requires-clause-ranges g c =
    subst (λ (rs : List Record). All IsRecord rs) (sym (c.deref.ensures.value ∙ c.in-Ok.ensures)) (snapshot_ranged (state_of c.args.self.now) c.requires.valid.ranged)

pub returns-clause-valid : goal.returns-clause-valid
returns-clause-valid g c =
    let d = g.D.Disk in
    let old = c.args.self.now in
    let r = c.replace.ensures in
    let set = setting_of old in
    let before = durable_of old in
    let records = c.deref.result.now in
    let is = c.requires.valid in
    let live : IsTrue old.journal.live = cc in
    record {
      engine = is.engine;
      setting = is.setting;
      ranged = is.ranged;
      stored = λ live_now told.
          stored_behind d.tells d.seen d.may_leave d.failed set before records old.journal c.replace.new.journal c.replace.result live live_now told is.stored
          (λ s. subst (λ (rs : List Record). Give set rs before) (sym (c.deref.ensures.value ∙ c.in-Ok.ensures)) (snapshot_is set s.entries before s.replays))
          r.stored r.current r.other r.device r.unchanged;
    }

pub returns-clause-compaction : goal.returns-clause-compaction
returns-clause-compaction g c =
    let e = g.E.Engine in
    let d = g.D.Disk in
    let old = c.args.self.now in
    let last = c.replace.new.journal in
    let new : Node g.row.E.Denot g.row.D.Denot = record old { journal = last } in
    let r = c.replace.ensures in
    let set = setting_of old in
    let before = durable_of old in
    let records_are : c.deref.result.now ≡ snapshot_of before = c.deref.ensures.value ∙ c.in-Ok.ensures in
    compacting e.valid e.meaning e.heard d.tells d.seen d.may_leave d.moment d.left_since d.failed g.met.D.Disk.counts_now g.met.D.Disk.only_now old new c.replace.result c.requires.valid
    (compaction_ends e.meaning e.heard d.failed old new refl c.replace.result r.live (subst (λ (rs : List Record). OnOk c.replace.result (last.len ≡ len_with rs)) records_are r.len) r.turned r.failed r.damaged
    (λ is. subst (λ (rs : List Record). HasNoRoom old.journal rs) records_are (r.full is)) r.device r.unchanged)
    (λ dead. absurd cc) refl r.tells r.kept
    (λ told s. r.any_moment set before told (subst (λ (rs : List Record). Give set rs before) (sym records_are) (snapshot_is set s.entries before s.replays)) s)
    (λ told. subst (λ (rs : List Record). LeavesReplaced d.seen d.may_leave d.moment d.left_since old.journal last rs) records_are (r.writes told))
