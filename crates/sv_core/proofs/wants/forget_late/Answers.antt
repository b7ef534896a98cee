use Rattle.sv_core.proofs.Prelude.{◌∙◌, Bool, cond, false, suc, take, drop, Parked, is_late, wants_where}
use Rattle.sv_core.proofs.WantLemmas.{is_around, walked_more, all_walked}
use Rattle.sv_core.proofs.wants.forget_late.Goals as goal

pub loop-parked-preserved : goal.loop-parked-preserved
loop-parked-preserved c = λ test are.
    let all = c.args.all.now in
    let i = c.loop-parked.parked-index in
    let p = c.parked-item.result in
    let new : Parked → Bool = λ p. cond (is_late c.args.setting c.args.steady p) false (test p) in
    c.forget_if_late.ensures.items (wants_where new (take i all)) (test p) (wants_where test (drop (suc i) all))
    (is_around new test all i p c.loop-parked.wants.items c.requires c.loop-parked-test.true c.parked-item.is (c.loop-parked.invariant test are))
    ∙ walked_more new test all i p c.loop-parked-test.true c.parked-item.is

pub returns : goal.returns
returns c = λ test are.
    c.loop-parked.invariant test are ∙ all_walked (λ p. cond (is_late c.args.setting c.args.steady p) false (test p)) test c.args.all.now c.loop-parked.parked-index c.loop-parked-test.false
