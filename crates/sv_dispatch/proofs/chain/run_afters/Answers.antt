use Rattle.sv_dispatch.proofs.Prelude.{ap}
use Rattle.sv_dispatch.proofs.ChainLemmas.{no_items, afters_end, afters_pop, filters_kept, ready_last, ready_front}
use Rattle.sv_dispatch.proofs.chain.run_afters.Goals as goal

pub after_at-requires : goal.after_at-requires
after_at-requires g c = ready_last _ _ _ _ _ c.loop-k.invariant.same c.loop-k.invariant.ready c.in-Some.ensures.items

pub loop-k-preserved : goal.loop-k-preserved
loop-k-preserved g c = record {
  same = filters_kept _ _ _ c.loop-k.invariant.same c.after_at.ensures.same;
  ready = ready_front _ _ _ _ c.in-Some.ensures.items c.loop-k.invariant.ready;
  rest = afters_pop _ _ _ _ _ _ _ _ _ _ (ap (λ t. t.filters) c.loop-k.invariant.same) c.in-Some.ensures.items c.call.ensures c.in_ok-after_at.ensures.answer c.loop-k.invariant.rest;
}

pub returns-in_err-after_at-clause-same : goal.returns-in_err-after_at-clause-same
returns-in_err-after_at-clause-same g c = filters_kept _ _ _ c.loop-k.invariant.same c.after_at.ensures.same

pub returns-clause-lent : goal.returns-clause-lent
returns-clause-lent g c = afters_end _ _ _ _ _ (no_items _ _ c.loop-k.passed.ok.0 c.in_default.ensures.cases.0) c.loop-k.invariant.rest
