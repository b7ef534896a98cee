use Rattle.sv_mapping.proofs.ChainLemmas.{chain_is}
use Rattle.sv_mapping.proofs.chain.filters_for.Goals as goal

pub returns-clause-chain : goal.returns-clause-chain
returns-clause-chain c =
    rw (c.in_ok-add_by_servlet.ensures.ok, c.in_ok-add_by_pattern.ensures.ok, c.new-filters.ensures.items) (chain_is c.args.path.now c.args.servlet c.args.dispatcher c.args.mappings.now)
