use Rattle.sv_dispatch.proofs.Prelude.{ap, refl, sym, ◌∙◌}
use Rattle.sv_dispatch.proofs.ChainLemmas.{befores_pass, befores_stop, befores_end, filters_kept, ready_at}
use Rattle.sv_dispatch.proofs.chain.run_befores.Goals as goal

pub before_at-requires : goal.before_at-requires
before_at-requires g c = ready_at _ _ _ _ _ 0 c.loop-place.invariant.same c.requires c.loop-place-test.true refl

pub loop-place-preserved : goal.loop-place-preserved
loop-place-preserved g c = record {
  same = filters_kept _ _ _ c.loop-place.invariant.same c.before_at.ensures.same;
  rest = befores_pass _ _ _ _ _ 0 _ _ _ _ _ _ _ _ _ (ap (λ t. t.filters) c.loop-place.invariant.same) c.loop-place-test.true refl (sym c.passes.ensures ∙ c.if-not-passes.false)
      c.call.ensures c.in_ok-view.ensures c.in_ok-before.ensures.answer c.in_ok-push.ensures.items c.loop-place.invariant.rest;
}

pub returns-in_err-before-clause-same : goal.returns-in_err-before-clause-same
returns-in_err-before-clause-same g c = filters_kept _ _ _ c.loop-place.invariant.same c.before_at.ensures.same

pub returns-clause-begun : goal.returns-clause-begun
returns-clause-begun g c = befores_end _ _ _ _ _ _ _ c.loop-place-test.false c.loop-place.invariant.rest

pub returns-then-not-passes-clause-begun : goal.returns-then-not-passes-clause-begun
returns-then-not-passes-clause-begun g c = befores_stop _ _ _ _ _ 0 _ _ _ _ _ _ _ (ap (λ t. t.filters) c.loop-place.invariant.same) c.loop-place-test.true refl (sym c.passes.ensures ∙ c.if-not-passes.true)
    c.call.ensures c.in_ok-before.ensures.answer c.loop-place.invariant.rest
