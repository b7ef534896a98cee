use Rattle.std.proofs.Common.{ℕ, List, [], ◌∷◌, ◌++◌, ◌+◌, ◌∙◌, length, ap, subst}
use Rattle.std.proofs.lemmas.Result.{on_ok_weaker}
use Rattle.sv_node.proofs.Prelude.{LeavesOnly, OpensEither, Holds}
use Rattle.sv_node.proofs.StopLemmas.{adding, added, still_entries}
use Rattle.sv_node.proofs.ledger.add.Goals as goal

pub returns-clause-stored : goal.returns-clause-stored
returns-clause-stored g c =
    let d = g.D.Disk in
    let is = c.deref.ensures.value ∙ c.in_ok-bytes.ensures.bytes in
    on_ok_weaker c.append.result (λ more set e told follows s.
    added d.tells d.seen d.may_leave d.moment d.left_since c.args.journal.now c.append.new.self set e c.args.entry.now s c.in_ok-bytes.ensures.fits follows
    (subst (λ (p : List ℕ). Holds d.seen d.may_leave c.append.new.self (s.entries ++ p ∷ [])) is (more s.entries told s.holds))) c.append.ensures.added

pub returns-clause-any_moment : goal.returns-clause-any_moment
returns-clause-any_moment g c = λ set e told follows s.
    let d = g.D.Disk in
    let is = c.deref.ensures.value ∙ c.in_ok-bytes.ensures.bytes in
    adding d.tells d.seen d.may_leave d.moment d.left_since c.args.journal.now set e c.args.entry.now c.append.new.self.current s c.in_ok-bytes.ensures.fits follows
    (subst (λ (p : List ℕ). LeavesOnly d.moment d.left_since c.args.journal.now.current c.append.new.self.current (OpensEither (d.seen c.args.journal.now.other) s.entries (s.entries ++ p ∷ []))) is (c.append.ensures.any_moment s.entries told s.holds))

pub returns-clause-added : goal.returns-clause-added
returns-clause-added g c =
    let is = c.deref.ensures.value ∙ c.in_ok-bytes.ensures.bytes in
    on_ok_weaker c.append.result (λ end. record { end = end ∙ ap (λ (p : List ℕ). c.args.journal.now.end + 5 + length p) is; generation = c.append.ensures.generation }) c.append.ensures.end

pub returns-in_err-bytes-clause-writes : goal.returns-in_err-bytes-clause-writes
returns-in_err-bytes-clause-writes g c = λ told.
    let d = g.D.Disk in
    still_entries d.tells d.seen d.may_leave d.moment d.left_since g.met.D.Disk.only_now c.args.journal.now (c.args.entry.now ∷ []) told

pub returns-clause-writes : goal.returns-clause-writes
returns-clause-writes g c = λ told entries holds.
    let d = g.D.Disk in
    let is = c.deref.ensures.value ∙ c.in_ok-bytes.ensures.bytes in
    subst (λ (p : List ℕ). LeavesOnly d.moment d.left_since c.args.journal.now.current c.append.new.self.current (OpensEither (d.seen c.args.journal.now.other) entries (entries ++ p ∷ []))) is (c.append.ensures.any_moment entries told holds)

pub returns-clause-holds : goal.returns-clause-holds
returns-clause-holds g c =
    let d = g.D.Disk in
    let is = c.deref.ensures.value ∙ c.in_ok-bytes.ensures.bytes in
    on_ok_weaker c.append.result (λ more entries told holds. subst (λ (p : List ℕ). Holds d.seen d.may_leave c.append.new.self (entries ++ p ∷ [])) is (more entries told holds)) c.append.ensures.added
