use Rattle.sv_core.proofs.Prelude.{◌≡◌, cond, false, rules, sym, ap, subst, ◌∙◌, not, filter, is_late, node_of, Rise, keys_in, wants_in, is_here, IsLine}
use Rattle.sv_core.proofs.Prelude.{wants_here, wants_where}
use Rattle.std.proofs.lemmas.Fn.{filter_same}
use Rattle.sv_core.proofs.WantLemmas.{line_rises, line_passing, where_filter}
use Rattle.sv_core.proofs.kept.Kept.leave_late.Goals as goal

pub forget_late-requires : goal.forget_late-requires
forget_late-requires c = let k = c.args.self.now in subst (λ l. Rise (wants_in l)) (sym c.deref.ensures.value) (line_rises k.next_want k.parked.items k.line)

pub invariant_of-self : goal.invariant_of-self
invariant_of-self c =
    let k = c.args.self.now in
    let left : c.retain.new.self.items ≡ filter (λ p. not (is_late k.setting c.args.steady p)) k.parked.items =
    filter_same _ (λ p. not (is_late k.setting c.args.steady p)) _ (λ x b f' k. search rules) _ _ c.retain.ensures.filtered in
    record {
      keyed = c.list_keys.ensures ∙ ap keys_in c.deref-2.ensures.value;
      line = subst (IsLine k.next_want) (sym left) (line_passing (λ p. not (is_late k.setting c.args.steady p)) k.next_want k.parked.items k.line);
      walked = c.forget_late.ensures (is_here (node_of k).durable) (k.walked ∙ ap (wants_here (node_of k).durable) (sym c.deref.ensures.value))
          ∙ ap (wants_where (λ p. cond (is_late k.setting c.args.steady p) false (is_here (node_of k).durable p))) c.deref.ensures.value
          ∙ where_filter (is_late k.setting c.args.steady) (is_here (node_of k).durable) k.parked.items ∙ ap (wants_here (node_of k).durable) (sym left);
      ended = k.ended;
    }

pub returns-clause-node : goal.returns-clause-node
returns-clause-node c =
    let k = c.args.self.now in
    let left : c.retain.new.self.items ≡ filter (λ p. not (is_late k.setting c.args.steady p)) k.parked.items =
    filter_same _ (λ p. not (is_late k.setting c.args.steady p)) _ (λ x b f' k. search rules) _ _ c.retain.ensures.filtered in
    λ i. record { durable = (node_of k).durable; parked = left i; next_want = k.next_want }
