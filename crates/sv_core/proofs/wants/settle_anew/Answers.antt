use Rattle.sv_core.proofs.Prelude.{[], ◌∷◌, ◌++◌, cond, arith, ap, ◌∙◌, keys_of, durable_by, is_here}
use Rattle.sv_core.proofs.WantLemmas.{where_more, where_all}
use Rattle.sv_core.proofs.wants.settle_anew.Goals as goal

pub push_if-requires : goal.push_if-requires
push_if-requires c = omega (arith, c.loop-parked.invariant.len, c.loop-parked.invariant.capacity, c.loop-parked-test.true, c.requires)

pub loop-parked-preserved : goal.loop-parked-preserved
loop-parked-preserved c =
    let p = c.parked-item.result in
    let test = is_here (durable_by (keys_of c.args.keys.now) 0 c.args.next c.args.home) in
    record {
      items = c.push_if.ensures.items ∙ ap (λ b. c.loop-parked.wants.items ++ cond b (p.want ∷ []) []) c.can_serve.ensures
          ∙ where_more test c.args.all.now c.loop-parked.parked-index p c.loop-parked.wants.items c.loop-parked-test.true c.parked-item.is c.loop-parked.invariant.items;
      len = omega (arith, c.push_if.ensures.len, c.loop-parked.invariant.len);
      capacity = omega (arith, c.push_if.ensures.capacity, c.loop-parked.invariant.capacity);
    }

pub returns-clause-items : goal.returns-clause-items
returns-clause-items c =
    c.loop-parked.invariant.items ∙ where_all (is_here (durable_by (keys_of c.args.keys.now) 0 c.args.next c.args.home)) c.args.all.now c.loop-parked.parked-index c.loop-parked-test.false
