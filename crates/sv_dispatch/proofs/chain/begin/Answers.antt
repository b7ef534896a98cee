use Rattle.sv_dispatch.proofs.Prelude.{◌∙◌, ap, IfOk-weaker}
use Rattle.sv_dispatch.specs.Dispatching.{visit}
use Rattle.sv_dispatch.proofs.OpenLemmas.{passed_ready, chain_ready}
use Rattle.sv_dispatch.proofs.chain.begin.Goals as goal

pub run_befores-requires : goal.run_befores-requires
run_befores-requires g c = chain_ready _ _ (visit c.args.dispatcher c.args.view c.args.path.now c.args.servlet) c.requires (c.as_slice.ensures.value ∙ c.in_ok-chain.ensures)

pub returns-clause-ready : goal.returns-clause-ready
returns-clause-ready g c =
    let ready = chain_ready _ _ (visit c.args.dispatcher c.args.view c.args.path.now c.args.servlet) c.requires (c.as_slice.ensures.value ∙ c.in_ok-chain.ensures) in
    IfOk-weaker c.run_befores.result _ _ (λ r h. passed_ready _ _ _ _ _ _ _ _ _ (ap (λ t. t.filters) c.run_befores.ensures.same) ready h) c.run_befores.ensures.begun
