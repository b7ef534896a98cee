use Rattle.sv_core.proofs.Prelude.{ap, refl, ◌∙◌, IfOk-weaker, served, node_of}
use Rattle.std.specs.Prelude.{Some, remove}
use Rattle.sv_core.proofs.WaitingLemmas.{serves_first}
use Rattle.sv_core.proofs.row.serve_at.Goals as goal

pub returns-clause-decision : goal.returns-clause-decision
returns-clause-decision g c =
    let k = c.args.kept.now in
    let m = g.E.Engine.meaning c.args.engine.now in
    λ test found. IfOk-weaker c.serve.result _ _ (λ d is.
    is ∙ ap (λ r. served m k.setting (node_of k) c.args.moment c.index-parked.result.now.token r (remove k.parked.items c.args.at)) c.in_ok-request.ensures
    ∙ serves_first m k.setting (node_of k) c.args.moment test (Some c.args.at) c.args.at c.index-parked.result.now refl c.requires.place c.index-parked.ensures found) c.serve.ensures.decision
