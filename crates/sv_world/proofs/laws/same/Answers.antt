use Rattle.sv_world.proofs.HeadlineLemmas.{same, same_fit}
use Rattle.sv_world.proofs.laws.same.Goals as goal

pub returns-clause-headline : goal.returns-clause-headline
returns-clause-headline k m touches nodes rules es = same m touches nodes rules es

pub returns-clause-fit : goal.returns-clause-fit
returns-clause-fit k m touches nodes rules es = same_fit m touches nodes rules es
