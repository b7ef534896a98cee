use Rattle.sv_dispatch.proofs.PageLemmas.{run_settled}
use Rattle.sv_dispatch.proofs.Prelude.{lent_of}
use Rattle.sv_dispatch.proofs.request.run_at.Goals as goal

pub returns-clause-ran : goal.returns-clause-ran
returns-clause-ran g c =
    run_settled c.settle.result _ _ c.args.call c.of.result _ _ (lent_of c.args.stage.now) (lent_of c.dispatch_first.new.stage) (lent_of c.settle.new.stage) _ c.settle.ensures.ran c.dispatch_first.ensures.same c.of.ensures c.requires.path c.in_ok-ended.ensures.outcome
