use Rattle.sv_dispatch.proofs.Prelude.{sym, ltb-false}
use Rattle.sv_dispatch.proofs.ViewLemmas.{ready_yes, ready_not, ready_past}
use Rattle.sv_dispatch.proofs.hosted.ready_at.Goals as goal

pub returns-then-hosted : goal.returns-then-hosted
returns-then-hosted g c = ready_yes _ _ _ _ _ c.in-Some.is c.in-Some-get.ensures.lookup.3.0 c.in-Some-get.ensures.lookup.1 c.deref.ensures.value c.if-hosted.true

pub returns-else-hosted : goal.returns-else-hosted
returns-else-hosted g c = ready_not _ _ _ _ _ c.in-Some.is c.in-Some-get.ensures.lookup.3.0 c.in-Some-get.ensures.lookup.1 c.deref.ensures.value c.if-hosted.false

pub returns-in-None : goal.returns-in-None
returns-in-None g c = ready_past _ _ _ _ c.in-Some.is (ltb-false _ _ (sym c.in-None.ensures.lookup.0)) c.deref.ensures.value
