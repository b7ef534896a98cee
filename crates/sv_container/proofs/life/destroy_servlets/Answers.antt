use Rattle.sv_container.proofs.Prelude.{◌≡◌, ◌≤◌, ◌+◌, ◌∙◌, arith, length, length-set, refl}
use Rattle.sv_container.proofs.LifeLemmas.{all_counted, count_fits, none_counted, one_more_counted, rest_as_before}
use Rattle.sv_container.proofs.life.destroy_servlets.Goals as goal

pub loop-at-init : goal.loop-at-init
loop-at-init g c =
    let all : c.len-at.result ≡ length c.args.all.now.items = c.len-at.ensures ∙ c.args.all.now.ok.0 in
    record {
      within = omega (arith, all);
      long = refl;
      rest = λ k d h. refl;
      counted = none_counted g.S.Servlet.serves g.S.Servlet.servlet_phase c.args.all.now.items c.args.all.now.items _ all;
    }

pub overflow_add-count : goal.overflow_add-count
overflow_add-count g c =
    let h : c.loop-at.count + c.destroy_servlet-count.result ≤ length c.args.all.now.items = count_fits g.S.Servlet.serves g.S.Servlet.servlet_phase c.args.all.now.items c.loop-at.all.items c.loop-at.at c.loop-at.count c.destroy_servlet-count.result _ c.loop-at-test.true c.loop-at.invariant.within c.loop-at.invariant.long c.index_mut.ensures.value c.destroy_servlet-count.ensures c.loop-at.invariant.rest c.loop-at.invariant.counted in
    omega (arith, h, c.args.all.now.ok, c.args.all.now.small)

pub loop-at-preserved : goal.loop-at-preserved
loop-at-preserved g c = record {
  within = omega (arith, c.loop-at.invariant.within);
  long = length-set _ _ _ ∙ c.loop-at.invariant.long;
  rest = rest_as_before g.S.Servlet.serves g.S.Servlet.servlet_phase c.args.all.now.items c.loop-at.all.items c.loop-at.at c.loop-at.count c.destroy_servlet-count.result _ c.loop-at-test.true c.loop-at.invariant.within c.loop-at.invariant.long c.index_mut.ensures.value c.destroy_servlet-count.ensures c.loop-at.invariant.rest c.loop-at.invariant.counted _;
  counted = one_more_counted g.S.Servlet.serves g.S.Servlet.servlet_phase c.args.all.now.items c.loop-at.all.items c.loop-at.at c.loop-at.count c.destroy_servlet-count.result _ c.loop-at-test.true c.loop-at.invariant.within c.loop-at.invariant.long c.index_mut.ensures.value c.destroy_servlet-count.ensures c.loop-at.invariant.rest c.loop-at.invariant.counted;
}

pub returns : goal.returns
returns g c =
    let done : c.loop-at.at ≡ 0 = omega arith in
    all_counted g.S.Servlet.serves g.S.Servlet.servlet_phase c.args.all.now.items c.loop-at.all.items c.loop-at.at c.loop-at.count done c.loop-at.invariant.counted
