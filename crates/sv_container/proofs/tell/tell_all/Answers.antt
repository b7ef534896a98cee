use Rattle.sv_container.proofs.Prelude.{◌∙◌, arith}
use Rattle.sv_container.proofs.TellLemmas.{all_heard, one_heard}
use Rattle.sv_container.proofs.tell.tell_all.Goals as goal

pub loop-one-preserved : goal.loop-one-preserved
loop-one-preserved g c = record {
  same = c.tell.ensures.same ∙ c.loop-one.invariant.same;
  rest = one_heard _ _ _ _ _ _ _ _ c.loop-one.invariant.same c.tell.ensures.noted c.loop-one-test.true c.one-item.is c.loop-one.invariant.rest;
}

pub returns-clause-noted : goal.returns-clause-noted
returns-clause-noted g c = all_heard _ _ _ _ c.loop-one.one-index (omega arith) c.loop-one.invariant.rest
