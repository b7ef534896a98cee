use Rattle.std.proofs.Common.{◌≡◌, ◌++◌, ℕ, List, map, ap, sym, subst, Option, Some}
use Rattle.std.proofs.lemmas.List.{append-nil}
use Rattle.std.specs.Option.{option_to_list}
use Rattle.std.specs.Prelude.{OnOk, option_copied}
use Rattle.sv_node.proofs.Prelude.{LeavesOnly, Holds, Setting, Record, Durable, applied_if, spelling, HasAdded, CanFollow, Stores, RestoresEither, LeavesAdded}
use Rattle.sv_node.proofs.StopLemmas.{still_entries}
use Rattle.sv_node.proofs.ledger.keep.Goals as goal

pub returns-in-Some-clause-stored : goal.returns-in-Some-clause-stored
returns-in-Some-clause-stored g c =
    let k = g.D.Disk in
    let is : option_copied c.args.entry ≡ Some c.in-Some.entry.now = ap option_copied c.in-Some.is in
    subst (λ (o : Option Record). OnOk c.add.result ((set : Setting) (d : Durable) → k.tells c.args.journal.now.current → CanFollow set d o → Stores k.seen k.may_leave c.args.journal.now set d
    → Stores k.seen k.may_leave c.add.new.journal set (applied_if o d))) (sym is) c.add.ensures.stored

pub returns-in-Some-clause-any_moment : goal.returns-in-Some-clause-any_moment
returns-in-Some-clause-any_moment g c =
    let k = g.D.Disk in
    let is : option_copied c.args.entry ≡ Some c.in-Some.entry.now = ap option_copied c.in-Some.is in
    subst (λ (o : Option Record). (set : Setting) (d : Durable) → k.tells c.args.journal.now.current → CanFollow set d o → Stores k.seen k.may_leave c.args.journal.now set d
    → LeavesOnly k.moment k.left_since c.args.journal.now.current c.add.new.journal.current (RestoresEither set (k.seen c.args.journal.now.other) d (applied_if o d))) (sym is) c.add.ensures.any_moment

pub returns-in-Some-clause-added : goal.returns-in-Some-clause-added
returns-in-Some-clause-added g c =
    let is : option_copied c.args.entry ≡ Some c.in-Some.entry.now = ap option_copied c.in-Some.is in
    subst (λ (o : Option Record). OnOk c.add.result (HasAdded c.args.journal.now c.add.new.journal o)) (sym is) c.add.ensures.added

pub returns-in-None-clause-writes : goal.returns-in-None-clause-writes
returns-in-None-clause-writes g c = λ told.
    let k = g.D.Disk in
    still_entries k.tells k.seen k.may_leave k.moment k.left_since g.met.D.Disk.only_now c.args.journal.now (option_to_list (option_copied c.args.entry)) told

pub returns-in-None-clause-holds : goal.returns-in-None-clause-holds
returns-in-None-clause-holds g c = λ entries told holds.
    let k = g.D.Disk in
    subst (λ (o : Option Record). Holds k.seen k.may_leave c.args.journal.now (entries ++ map spelling (option_to_list o))) (sym (ap option_copied c.in-None.is))
    (subst (λ (es : List (List ℕ)). Holds k.seen k.may_leave c.args.journal.now es) (sym (append-nil entries)) holds)

pub returns-in-Some-clause-writes : goal.returns-in-Some-clause-writes
returns-in-Some-clause-writes g c =
    let k = g.D.Disk in
    let is : option_copied c.args.entry ≡ Some c.in-Some.entry.now = ap option_copied c.in-Some.is in
    subst (λ (o : Option Record). k.tells c.args.journal.now.current → LeavesAdded k.seen k.may_leave k.moment k.left_since c.args.journal.now c.add.new.journal (option_to_list o)) (sym is) c.add.ensures.writes

pub returns-in-Some-clause-holds : goal.returns-in-Some-clause-holds
returns-in-Some-clause-holds g c =
    let k = g.D.Disk in
    let is : option_copied c.args.entry ≡ Some c.in-Some.entry.now = ap option_copied c.in-Some.is in
    subst (λ (o : Option Record). OnOk c.add.result ((entries : List (List ℕ)) → k.tells c.args.journal.now.current → Holds k.seen k.may_leave c.args.journal.now entries
    → Holds k.seen k.may_leave c.add.new.journal (entries ++ map spelling (option_to_list o)))) (sym is) c.add.ensures.holds
