use Rattle.sv_dispatch.proofs.FirstLemmas.{goes_on}
use Rattle.sv_dispatch.proofs.first.go_on.Goals as goal

pub returns-clause-outcome : goal.returns-clause-outcome
returns-clause-outcome g c = goes_on c.run_from.result _ _ c.in_ok-mode.mode _ _ _ _ c.follow.ensures.same c.run_from.ensures.outcome (c.in_ok-mode.ensures.current 15 c.args.left.now)
