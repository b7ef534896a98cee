use Rattle.sv_host.proofs.Prelude.{refl}
use Rattle.sv_host.proofs.ServingLemmas.{serves_on, served_none, served_out, served_then, served_well}
use Rattle.sv_host.proofs.nudges.expire.Goals as goal

pub loop-init : goal.loop-init
loop-init g c = record { served = served_none _ c.requires; carried = λ first so_far. so_far }

pub end_some-requires : goal.end_some-requires
end_some-requires g c = serves_on refl c.loop.invariant.served

pub returns-in_err-end_some-clause-served : goal.returns-in_err-end_some-clause-served
returns-in_err-end_some-clause-served g c = served_then refl c.loop.invariant.served (served_out _ c.in_err-end_some.was c.from_residual.ensures.0 c.end_some.ensures.served)

pub loop-preserved : goal.loop-preserved
loop-preserved g c = record {
  served = served_then refl c.loop.invariant.served (served_well _ c.in_ok-end_some.was c.end_some.ensures.served);
  carried = λ first so_far. c.end_some.ensures.carried first (c.loop.invariant.carried first so_far);
}
