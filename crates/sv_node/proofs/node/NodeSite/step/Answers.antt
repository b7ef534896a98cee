use Rattle.std.proofs.Common.{◌≡◌, ◌∙◌, Ok, Err, Option, IsTrue, ap, refl, sym, subst}
use Rattle.std.specs.Prelude.{option_copied, vec_items, IfSome}
use Rattle.std.specs.Option.{option_to_list}
use Rattle.sv_core.specs.Core as core
use Rattle.sv_node.proofs.Prelude.{Decision, Durable, Node as State, IsSetting, IsRanged, Fits, applied_if, View, Setting, Record, StepFault, Memory}
use Rattle.sv_node.proofs.Prelude.{step_fault, decided_at, setting_of, durable_of, IsTooLong, HasAdded, CanFollow, Stores, LeavesAdded}
use Rattle.sv_node.specs.declared.node.Node.{Node}
use Rattle.sv_node.proofs.Stepping.{Steps, Moments, stepping, quiet, refused, unchanged, still_node, whole}
use Rattle.sv_node.proofs.node.NodeSite.step.Goals as goal

pub returns-in_default-clause-step : goal.returns-in_default-clause-step
returns-in_default-clause-step g c =
    let e = g.E.Engine in
    let d = g.D.Disk in
    let old = c.args.self.now in
    quiet e.valid e.meaning e.heard d.tells d.seen d.may_leave d.moment d.left_since d.failed g.met.D.Disk.counts_now g.met.D.Disk.only_now old (record old { core = c.decide.new.self }) (decided_at e.meaning old c.args.moment c.args.input) (Err Memory)
    c.requires.valid (record { view = c.decide.ensures.view; journal = refl }) (λ dead. absurd cc) c.decide.ensures.setting refl

pub returns-in-Err-clause-valid : goal.returns-in-Err-clause-valid
returns-in-Err-clause-valid g c =
    let e = g.E.Engine in
    let d = g.D.Disk in
    let old = c.args.self.now in
    still_node e.valid e.meaning e.heard d.tells d.seen d.may_leave d.moment d.left_since d.failed g.met.D.Disk.counts_now g.met.D.Disk.only_now old (record old { core = c.decide.new.self; journal = c.keep.new.journal })
    c.requires.valid c.decide.ensures.valid c.decide.ensures.setting (ap (λ (v : View). v.node) c.decide.ensures.view)
    (λ live. unchanged e.valid e.meaning e.heard d.tells d.seen d.may_leave d.moment d.left_since d.failed g.met.D.Disk.counts_now g.met.D.Disk.only_now c.keep.new.journal old.journal c.in-Err.fault live c.in-Err.ensures.device (c.in-Err.ensures.unchanged refl))

pub returns-in-Err-clause-step : goal.returns-in-Err-clause-step
returns-in-Err-clause-step g c =
    let e = g.E.Engine in
    let d = g.D.Disk in
    let old = c.args.self.now in
    let new : Node g.row.E.Denot g.row.D.Denot = record old { core = c.decide.new.self; journal = c.keep.new.journal } in
    let set = setting_of old in
    let before = durable_of old in
    let decision = decided_at e.meaning old c.args.moment c.args.input in
    let j = c.in-Ok.ensures.journaled in
    let entry_is : option_copied c.entry.result ≡ decision.entry = c.entry.ensures ∙ ap (λ (x : Decision). x.entry) c.in-Ok.ensures.decision in
    let after_is : applied_if (option_copied c.entry.result) before ≡ decision.durable = ap (λ (o : Option Record). applied_if o before) c.entry.ensures ∙ sym j.gives ∙ ap (λ (x : Decision). x.durable) c.in-Ok.ensures.decision in
    let follows : CanFollow set before (option_copied c.entry.result) = λ stage. subst (λ (o : Option Record). IfSome o (λ r. Fits set stage before r)) (sym c.entry.ensures) (j.fits stage) in
    subst (λ (f : StepFault). Steps e.valid e.meaning e.heard d.tells d.seen d.may_leave d.moment d.left_since d.failed g.met.D.Disk.counts_now g.met.D.Disk.only_now old decision (Err f) new) (sym c.step_fault.ensures)
    (stepping e.valid e.meaning e.heard d.tells d.seen d.may_leave d.moment d.left_since d.failed g.met.D.Disk.counts_now g.met.D.Disk.only_now old new decision (Err (step_fault c.in-Err.fault)) c.requires.valid
    (refused e.valid e.meaning e.heard d.tells d.seen d.may_leave d.moment d.left_since d.failed g.met.D.Disk.counts_now g.met.D.Disk.only_now old new decision c.in-Err.fault c.decide.ensures.view c.in-Err.ensures.failed c.in-Err.ensures.damaged
    (λ is. subst (λ (o : Option Record). IsTooLong old.journal o) entry_is (c.in-Err.ensures.full is)) c.in-Err.ensures.device (c.in-Err.ensures.unchanged refl))
    (λ dead. absurd cc) c.decide.ensures.setting c.keep.ensures.tells c.keep.ensures.other c.keep.ensures.on_a
    (λ told s. subst (λ (x : Durable). Moments e.valid e.meaning e.heard d.tells d.seen d.may_leave d.moment d.left_since d.failed g.met.D.Disk.counts_now g.met.D.Disk.only_now old.journal c.keep.new.journal set before x) after_is (c.keep.ensures.any_moment set before told follows s))
    (λ told. subst (λ (o : Option Record). LeavesAdded d.seen d.may_leave d.moment d.left_since old.journal c.keep.new.journal (option_to_list o)) entry_is (c.keep.ensures.writes told)) c.keep.ensures.generation)

pub returns-clause-valid : goal.returns-clause-valid
returns-clause-valid g c =
    let d = g.D.Disk in
    let old = c.args.self.now in
    let set = setting_of old in
    let before = durable_of old in
    let j = c.in-Ok.ensures.journaled in
    let set_is = c.accept.ensures.setting ∙ c.decide.ensures.setting in
    let after_is = ap (λ (o : Option Record). applied_if o before) c.entry.ensures ∙ sym j.gives ∙ sym (ap (λ (n : State). n.durable) c.accept.ensures.node) in
    let follows : CanFollow set before (option_copied c.entry.result) = λ stage. subst (λ (o : Option Record). IfSome o (λ r. Fits set stage before r)) (sym c.entry.ensures) (j.fits stage) in
    record {
      engine = c.accept.ensures.valid;
      setting = subst IsSetting (sym set_is) c.requires.valid.setting;
      ranged = subst IsRanged (sym c.accept.ensures.node) (c.in-Ok.ensures.ranged c.requires.valid.setting c.requires.valid.ranged c.requires.input).left_is;
      stored = λ live told.
          let told_a = c.keep.ensures.tells.told_before told.0 in
          let told_b = subst (λ x. d.tells x) c.keep.ensures.other told.1 in
          let is_live : IsTrue old.journal.live = cc in
          let s = c.requires.valid.stored is_live (told_a, told_b) in
          subst (λ (x : Setting). Stores d.seen d.may_leave c.keep.new.journal x (core.durable_at c.accept.new.self)) (sym set_is)
          (subst (λ (x : Durable). Stores d.seen d.may_leave c.keep.new.journal set x) after_is (c.in_default-keep.ensures.stored set before told_a follows s));
    }

pub returns-clause-step : goal.returns-clause-step
returns-clause-step g c =
    let e = g.E.Engine in
    let d = g.D.Disk in
    let old = c.args.self.now in
    let new : Node g.row.E.Denot g.row.D.Denot = record old { core = c.accept.new.self; journal = c.keep.new.journal } in
    let mid = c.decide.new.self in
    let set = setting_of old in
    let before = durable_of old in
    let decision = decided_at e.meaning old c.args.moment c.args.input in
    let j = c.in-Ok.ensures.journaled in
    let after_is : applied_if (option_copied c.entry.result) before ≡ decision.durable = ap (λ (o : Option Record). applied_if o before) c.entry.ensures ∙ sym j.gives ∙ ap (λ (x : Decision). x.durable) c.in-Ok.ensures.decision in
    let follows : CanFollow set before (option_copied c.entry.result) = λ stage. subst (λ (o : Option Record). IfSome o (λ r. Fits set stage before r)) (sym c.entry.ensures) (j.fits stage) in
    stepping e.valid e.meaning e.heard d.tells d.seen d.may_leave d.moment d.left_since d.failed g.met.D.Disk.counts_now g.met.D.Disk.only_now old new decision (Ok (vec_items c.accept.result)) c.requires.valid (
      whole e.valid e.meaning e.heard d.tells d.seen d.may_leave d.moment d.left_since d.failed g.met.D.Disk.counts_now g.met.D.Disk.only_now (core.view_of e.meaning e.heard old.core) (core.view_of e.meaning e.heard mid) (core.view_of e.meaning e.heard c.accept.new.self) decision (core.decision_at mid c.in-Ok.decision) (vec_items c.accept.result) c.decide.ensures.view c.in-Ok.ensures.decision
          (record { meaning = c.accept.ensures.meaning; node = c.accept.ensures.node; heard = c.accept.ensures.heard; outputs_are = c.accept.ensures.outputs }),
      c.in_default-keep.ensures.live,
      subst (HasAdded old.journal c.keep.new.journal) (c.entry.ensures ∙ ap (λ (x : Decision). x.entry) c.in-Ok.ensures.decision) c.in_default-keep.ensures.added,
    )
    (λ dead. absurd cc) (c.accept.ensures.setting ∙ c.decide.ensures.setting) c.keep.ensures.tells c.keep.ensures.other c.keep.ensures.on_a
    (λ told s. subst (λ (x : Durable). Moments e.valid e.meaning e.heard d.tells d.seen d.may_leave d.moment d.left_since d.failed g.met.D.Disk.counts_now g.met.D.Disk.only_now old.journal c.keep.new.journal set before x) after_is (c.keep.ensures.any_moment set before told follows s))
    (λ told. subst (λ (o : Option Record). LeavesAdded d.seen d.may_leave d.moment d.left_since old.journal c.keep.new.journal (option_to_list o)) (c.entry.ensures ∙ ap (λ (x : Decision). x.entry) c.in-Ok.ensures.decision) (c.keep.ensures.writes told)) c.keep.ensures.generation
