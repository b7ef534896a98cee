use Rattle.std.proofs.Common.{refl}
use Rattle.std.proofs.lemmas.Result.{IfOk-weaker}
use Rattle.test_memory.proofs.cases.dispatches.hosted.Goals as goal

pub returns : goal.returns
returns g c = IfOk-weaker c.listed.result _ _ (λ all is. (_, is, refl)) c.listed.ensures
