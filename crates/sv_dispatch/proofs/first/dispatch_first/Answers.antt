use Rattle.sv_dispatch.proofs.Prelude.{◌∙◌, ap, ℕ, List, Request, Table, Visit, befores, lent_of, table_of}
use Rattle.std.proofs.Common.{rules}
use Rattle.sv_dispatch.specs.Dispatching.{visit}
use Rattle.sv_dispatch.proofs.ChainLemmas.{no_items}
use Rattle.sv_dispatch.proofs.FirstLemmas.{enters_mapped, performs_first}
use Rattle.sv_dispatch.proofs.OpenLemmas.{chain_ready, none_before}
use Rattle.sv_dispatch.proofs.first.dispatch_first.Goals as goal

pub place_first-requires-clause-ready : goal.place_first-requires-clause-ready
place_first-requires-clause-ready g c = chain_ready _ _ (visit Request c.args.view c.args.path.now c.args.servlet) c.requires.sound c.in_ok-chain.ensures

pub filter_first-requires-clause-ready : goal.filter_first-requires-clause-ready
filter_first-requires-clause-ready g c = chain_ready _ _ (visit Request c.args.view c.args.path.now c.args.servlet) c.requires.sound c.in_ok-chain.ensures

pub returns-then-is_empty-clause-outcome : goal.returns-then-is_empty-clause-outcome
returns-then-is_empty-clause-outcome g c =
    let t : Table = table_of g.S.Servlet g.F.Filter c.args.stage.now in
    let v : Visit = visit Request c.args.view c.args.path.now c.args.servlet in
    performs_first c.place_first.result t v _ (lent_of c.args.stage.now) _ _ _ c.place_first.ensures.outcome
    (none_before t.filters c.in_ok-chain.chain.items c.args.view (lent_of c.args.stage.now) (no_items _ _ c.in_ok-chain.chain.ok.0 (search rules))
    ∙ ap (λ (ks : List ℕ). befores t.filters ks c.args.view (lent_of c.args.stage.now)) c.in_ok-chain.ensures)
    (enters_mapped t 15 c.args.view c.args.path.now c.args.servlet c.args.left.now (lent_of c.args.stage.now) c.requires.servlet)

pub returns-else-is_empty-clause-outcome : goal.returns-else-is_empty-clause-outcome
returns-else-is_empty-clause-outcome g c =
    let t : Table = table_of g.S.Servlet g.F.Filter c.args.stage.now in
    let v : Visit = visit Request c.args.view c.args.path.now c.args.servlet in
    performs_first c.filter_first.result t v _ (lent_of c.args.stage.now) _ _ _ c.filter_first.ensures.outcome
    (ap (λ (ks : List ℕ). befores t.filters ks c.args.view (lent_of c.args.stage.now)) c.in_ok-chain.ensures)
    (enters_mapped t 15 c.args.view c.args.path.now c.args.servlet c.args.left.now (lent_of c.args.stage.now) c.requires.servlet)
