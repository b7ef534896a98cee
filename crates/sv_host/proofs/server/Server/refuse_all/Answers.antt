use Rattle.sv_host.proofs.Prelude.{arith, refl}
use Rattle.sv_host.proofs.HandLemmas.{one_refused}
use Rattle.sv_host.proofs.server.Server.refuse_all.Goals as goal

pub loop-way-preserved : goal.loop-way-preserved
loop-way-preserved c = record {
  refused = λ final all. c.loop-way.invariant.refused final (one_refused c.args.ways.now c.loop-way.way-index _ _ c.args.fault c.seconds-now.result c.loop-way.self c.conclude_refused.new.self final (omega (arith, c.loop-way-test.true)) refl c.conclude_refused.ensures.told all);
  carried = λ first so_far. c.conclude_refused.ensures.carried first (c.loop-way.invariant.carried first so_far);
}
