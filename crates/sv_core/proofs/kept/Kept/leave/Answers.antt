use Rattle.sv_core.proofs.Prelude.{suc, take, drop, arith, sym, ap, subst, ◌∙◌, node_of, keys_in, is_here, IsLine, wants_here, wants_where}
use Rattle.std.specs.List as list
use Rattle.sv_core.proofs.WantLemmas.{keys_left, line_rises, line_left, leaves_around, where_without}
use Rattle.sv_core.proofs.kept.Kept.leave.Goals as goal

pub invariant_of-self : goal.invariant_of-self
invariant_of-self c =
    let k = c.args.self.now in
    let test = is_here (node_of k).durable in
    let all = k.parked.items in
    let at = c.args.place in
    let p = c.remove-parked.result in
    record {
      keyed = c.remove.ensures.items ∙ ap (λ l. list.remove l at) k.keyed ∙ keys_left all at ∙ ap keys_in (sym c.remove-parked.ensures.items);
      line = subst (IsLine k.next_want) (sym c.remove-parked.ensures.items) (line_left k.next_want all at k.line);
      walked = c.forget.ensures.items (wants_where test (take at all)) (test p) (wants_where test (drop (suc at) all))
          (leaves_around test all at p k.settled.items (line_rises k.next_want all k.line) (omega (arith, c.if-place-len.true, c.len.ensures, k.parked.ok.0)) c.remove-parked.ensures.value k.walked)
          ∙ where_without test all at ∙ ap (wants_here (node_of k).durable) (sym c.remove-parked.ensures.items);
      ended = k.ended;
    }
