use Rattle.sv_dispatch.proofs.Prelude.{◌∙◌, refl, Done, Finished}
use Rattle.sv_dispatch.proofs.FirstLemmas.{ended_by}
use Rattle.sv_dispatch.proofs.RunLemmas.{follow_end}
use Rattle.sv_dispatch.proofs.first.follow_first.Goals as goal

pub returns-in-Done-clause-outcome : goal.returns-in-Done-clause-outcome
returns-in-Done-clause-outcome g c = ended_by c.end.result Finished c.args.left.now _ _ c.end.ensures.ended c.end.ensures.closed
    (λ p. p c.args.left.now ∙ follow_end _ 15 c.args.held c.args.left.now _ Finished _ Done c.in-Done.is refl)
