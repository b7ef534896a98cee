use Rattle.std.proofs.Common.{◌≡◌, ◌∙◌, ◌++◌, map, Option, Some, ap, sym, subst}
use Rattle.std.specs.Option.{option_to_list}
use Rattle.std.specs.Prelude.{option_copied, IfSome}
use Rattle.sv_core.specs.Core.{setting_of, node_at, durable_at, decision_at, starts}
use Rattle.sv_node.proofs.Prelude.{LeavesOnly, Holds, Record, boot_record, applied_if, spelling, HasAdded, CanFollow, RestoresEither}
use Rattle.sv_node.proofs.OpenLemmas.{start_follows}
use Rattle.sv_node.proofs.starting.start.Goals as goal

pub returns-in-Err-keep-clause-any_moment : goal.returns-in-Err-keep-clause-any_moment
returns-in-Err-keep-clause-any_moment g c = λ told s.
    let k = g.D.Disk in
    let set = setting_of c.args.core.now in
    let d = durable_at c.args.core.now in
    let entry_is : option_copied c.entry.result ≡ Some (boot_record set d) = c.entry.ensures ∙ ap (λ x. x.entry) (subst (λ o. IfSome o (λ x. decision_at c.decide_start.new.self x ≡ starts (setting_of c.args.core.now) (node_at c.args.core.now))) c.in-Ok-Some.field-0-is c.in-Ok-Some.ensures.decision) in
    subst (λ (o : Option Record). LeavesOnly k.moment k.left_since c.args.journal.now.current c.keep.new.journal.current (RestoresEither set (k.seen c.args.journal.now.other) d (applied_if o d))) entry_is
    (c.keep.ensures.any_moment set d told (subst (CanFollow set d) (sym entry_is) (start_follows set (node_at c.args.core.now))) s)

pub returns-clause-any_moment : goal.returns-clause-any_moment
returns-clause-any_moment g c = λ told s.
    let k = g.D.Disk in
    let set = setting_of c.args.core.now in
    let d = durable_at c.args.core.now in
    let entry_is : option_copied c.entry.result ≡ Some (boot_record set d) = c.entry.ensures ∙ ap (λ x. x.entry) (subst (λ o. IfSome o (λ x. decision_at c.decide_start.new.self x ≡ starts (setting_of c.args.core.now) (node_at c.args.core.now))) c.in-Ok-Some.field-0-is c.in-Ok-Some.ensures.decision) in
    subst (λ (o : Option Record). LeavesOnly k.moment k.left_since c.args.journal.now.current c.keep.new.journal.current (RestoresEither set (k.seen c.args.journal.now.other) d (applied_if o d))) entry_is
    (c.keep.ensures.any_moment set d told (subst (CanFollow set d) (sym entry_is) (start_follows set (node_at c.args.core.now))) s)

pub returns-clause-added : goal.returns-clause-added
returns-clause-added g c =
    let k = g.D.Disk in
    let set = setting_of c.args.core.now in
    let d = durable_at c.args.core.now in
    let entry_is : option_copied c.entry.result ≡ Some (boot_record set d) = c.entry.ensures ∙ ap (λ x. x.entry) (subst (λ o. IfSome o (λ x. decision_at c.decide_start.new.self x ≡ starts (setting_of c.args.core.now) (node_at c.args.core.now))) c.in-Ok-Some.field-0-is c.in-Ok-Some.ensures.decision) in
    subst (λ (o : Option Record). HasAdded c.args.journal.now c.keep.new.journal o) entry_is c.in_default.ensures.added

pub returns-clause-holds : goal.returns-clause-holds
returns-clause-holds g c = λ entries told holds.
    let k = g.D.Disk in
    let set = setting_of c.args.core.now in
    let d = durable_at c.args.core.now in
    let entry_is : option_copied c.entry.result ≡ Some (boot_record set d) = c.entry.ensures ∙ ap (λ x. x.entry) (subst (λ o. IfSome o (λ x. decision_at c.decide_start.new.self x ≡ starts (setting_of c.args.core.now) (node_at c.args.core.now))) c.in-Ok-Some.field-0-is c.in-Ok-Some.ensures.decision) in
    subst (λ (o : Option Record). Holds k.seen k.may_leave c.keep.new.journal (entries ++ map spelling (option_to_list o))) entry_is (c.in_default.ensures.holds entries told holds)
