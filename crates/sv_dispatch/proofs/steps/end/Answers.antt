use Rattle.sv_dispatch.proofs.OpenLemmas.{closed_kept}
use Rattle.sv_dispatch.proofs.steps.end.Goals as goal

pub returns-clause-closed : goal.returns-clause-closed
returns-clause-closed g c = closed_kept _ _ _ _ _ _ c.requires.kept c.in_ok-run_afters.ensures.lent
