use Rattle.sv_core.proofs.Prelude.{◌∙◌, suc, take, drop, arith, wants_where, with_key}
use Rattle.sv_core.proofs.WantLemmas.{is_around, walked_more, all_walked}
use Rattle.sv_core.proofs.wants.settle.Goals as goal

pub loop-parked-preserved : goal.loop-parked-preserved
loop-parked-preserved c =
    let all = c.args.all.now in
    let i = c.loop-parked.parked-index in
    let p = c.parked-item.result in
    record {
      items = λ test are.
          let new = with_key c.args.key c.args.is_settled test in
          c.settle_one.ensures.items (wants_where new (take i all)) (test p) (wants_where test (drop (suc i) all))
          (is_around new test all i p c.loop-parked.wants.items c.requires.rise c.loop-parked-test.true c.parked-item.is (c.loop-parked.invariant.items test are))
          ∙ walked_more new test all i p c.loop-parked-test.true c.parked-item.is;
      len = omega arith;
      capacity = omega arith;
    }

pub returns-clause-items : goal.returns-clause-items
returns-clause-items c = λ test are.
    c.loop-parked.invariant.items test are ∙ all_walked (with_key c.args.key c.args.is_settled test) test c.args.all.now c.loop-parked.parked-index c.loop-parked-test.false
