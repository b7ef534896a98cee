use Rattle.sv_core.proofs.Prelude.{◌+◌, [], ◌++◌, cond, ◌∷◌, arith, sym, ap, subst, ◌∙◌, node_of, keys_in, is_here, IsLine, wants_here}
use Rattle.sv_core.specs.Decision.{with_want}
use Rattle.sv_core.proofs.WantLemmas.{keys_joined, line_joined, where_push, where_fits}
use Rattle.sv_core.proofs.kept.Kept.join.Goals as goal

pub push_if-requires : goal.push_if-requires
push_if-requires c =
    let k = c.args.self.now in
    let fits = where_fits (is_here (node_of k).durable) k.parked.items k.settled.items k.walked in
    omega (arith, k.settled.ok.0, fits, c.requires.settled)

pub invariant_of-self : goal.invariant_of-self
invariant_of-self c =
    let k = c.args.self.now in
    let p = with_want k.next_want c.args.arrival in
    record {
      keyed = c.push_reserved.ensures.items ∙ ap (λ l. l ++ c.args.arrival.key ∷ []) k.keyed ∙ keys_joined k.parked.items p ∙ ap keys_in (sym c.push_reserved-2.ensures.items);
      line = subst (IsLine (k.next_want + 1)) (sym c.push_reserved-2.ensures.items) (line_joined k.parked.items p k.line);
      walked = c.push_if.ensures.items ∙ ap (λ b. k.settled.items ++ cond b (k.next_want ∷ []) []) c.is_settled-is_here.ensures
          ∙ where_push (is_here (node_of k).durable) k.parked.items p k.settled.items k.walked ∙ ap (wants_here (node_of k).durable) (sym c.push_reserved-2.ensures.items);
      ended = k.ended;
    }
