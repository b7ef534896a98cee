use Rattle.sv_core.proofs.Prelude.{[], ◌∷◌, ◌++◌, arith, ap, ◌∙◌}
use Rattle.sv_core.proofs.WantLemmas.{keys_more, keys_all}
use Rattle.sv_core.proofs.wants.list_keys.Goals as goal

pub loop-parked-preserved : goal.loop-parked-preserved
loop-parked-preserved c =
    let p = c.parked-item.result in
    record {
      items = c.push_reserved.ensures.items ∙ ap (λ l. l ++ p.key ∷ []) c.loop-parked.invariant.items ∙ keys_more c.args.all.now c.loop-parked.parked-index p c.loop-parked-test.true c.parked-item.is;
      len = omega (arith, c.push_reserved.ensures.len, c.loop-parked.invariant.len);
      capacity = omega (arith, c.push_reserved.ensures.capacity, c.loop-parked.invariant.capacity);
    }

pub returns : goal.returns
returns c = c.loop-parked.invariant.items ∙ keys_all c.args.all.now c.loop-parked.parked-index c.loop-parked-test.false
