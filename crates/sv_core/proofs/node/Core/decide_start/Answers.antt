use Rattle.sv_core.proofs.Prelude.{sym, subst, Node, Setting, IsJournaled, IsSetting, IsRanged, IsRangedStep, node_of, starts, decision_of}
use Rattle.std.proofs.lemmas.Option.{IfSome_then}
use Rattle.sv_core.proofs.RangeLemmas.{starts_journaled, starts_ranged}
use Rattle.sv_core.proofs.node.Core.decide_start.Goals as goal

pub returns-clause-journaled : goal.returns-clause-journaled
returns-clause-journaled g c =
    let k = c.reserve.new.self in
    let set = c.args.self.now.kept.setting in
    let old = node_of c.args.self.now.kept in
    IfSome_then c.start.result c.start.ensures.start (λ d is. subst (λ e. IsJournaled set old (decision_of k.setting (node_of k) e)) (sym is)
    (subst (λ (s : Setting). IsJournaled set old (starts s (node_of k))) (sym c.in_ok-reserve.ensures.setting)
    (subst (λ (n : Node). IsJournaled set n (starts set (node_of k))) c.in_ok-reserve.ensures.node (starts_journaled set (node_of k)))))

pub returns-clause-ranged : goal.returns-clause-ranged
returns-clause-ranged g c =
    let k = c.reserve.new.self in
    λ inside within. IfSome_then c.start.result c.start.ensures.start (λ d is. subst (λ e. IsRangedStep (decision_of k.setting (node_of k) e)) (sym is)
    (starts_ranged k.setting (node_of k) (subst IsSetting (sym c.in_ok-reserve.ensures.setting) inside) (subst IsRanged (sym c.in_ok-reserve.ensures.node) within)))
