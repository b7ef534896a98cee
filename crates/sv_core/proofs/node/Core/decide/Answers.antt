use Rattle.sv_core.proofs.Prelude.{sym, ap, subst, inl, ◌∙◌, IfOk-weaker, node_of, IsWithin, decided, IsJournaled, IsRangedStep}
use Rattle.sv_model.proofs.JournalLemmas.{journaled}
use Rattle.sv_model.proofs.RangeLemmas.{ranged}
use Rattle.sv_core.proofs.WithinLemmas.{within}
use Rattle.sv_core.proofs.node.Core.decide.Goals as goal

pub returns-clause-decided : goal.returns-clause-decided
returns-clause-decided g c =
    let k = c.reserve.new.self in
    IfOk-weaker c.decide.result _ _ (λ d is.
    record {
      row = inl (c.args.moment, c.args.input, is ∙ ap (λ m. decided m k.setting (node_of k) c.args.moment c.args.input) (sym c.decide.ensures.meaning));
      ready = c.in_ok-reserve.ensures.room;
      within = subst IsWithin (sym is) (within k.setting (node_of k) c.numbers-numbers.ensures.want c.numbers-numbers.ensures.next (g.E.Engine.meaning c.args.self.now.engine) c.args.moment c.args.input);
    }) c.decide.ensures.decision

pub returns-clause-journaled : goal.returns-clause-journaled
returns-clause-journaled g c =
    let k = c.args.self.now.kept in
    let m = g.E.Engine.meaning c.args.self.now.engine in
    IfOk-weaker c.decide.result _ _ (λ d is. subst (IsJournaled k.setting (node_of k)) (sym (is ∙ (λ i. decided m (c.in_ok-reserve.ensures.setting i) (c.in_ok-reserve.ensures.node i) c.args.moment c.args.input)))
    (journaled k.setting (node_of k) m (g.met.E.Engine.untouched c.args.self.now.engine c.requires) c.args.moment c.args.input)) c.decide.ensures.decision

pub returns-clause-ranged : goal.returns-clause-ranged
returns-clause-ranged g c =
    let k = c.args.self.now.kept in
    let e = c.args.self.now.engine in
    let m = g.E.Engine.meaning e in
    λ set_is node_is input_is. IfOk-weaker c.decide.result _ _ (λ d is. subst IsRangedStep (sym (is ∙ (λ i. decided m (c.in_ok-reserve.ensures.setting i) (c.in_ok-reserve.ensures.node i) c.args.moment c.args.input)))
    (ranged k.setting set_is (node_of k) node_is m (g.met.E.Engine.within_limits e c.requires) (g.met.E.Engine.names_keys e c.requires) c.args.moment c.args.input input_is)) c.decide.ensures.decision
