use Rattle.sv_dispatch.proofs.RowLemmas.{ready_within, ready_there, rows_same, before_there}
use Rattle.sv_dispatch.proofs.calls.before_at.Goals as goal

pub index_mut-requires : goal.index_mut-requires
index_mut-requires g c = rw c.args.all.now.ok.0 (ready_within _ _ _ _ c.requires)

pub before_one-requires : goal.before_one-requires
before_one-requires g c = ready_there _ _ _ _ _ c.requires c.index_mut.ensures.value

pub returns-clause-same : goal.returns-clause-same
returns-clause-same g c = rows_same _ _ _ _ _ _ c.before_one.ensures.same c.index_mut.ensures.value

pub returns-clause-answer : goal.returns-clause-answer
returns-clause-answer g c = rw (before_there _ _ _ _ _ (ready_within _ _ _ _ c.requires) c.index_mut.ensures.value) c.before_one.ensures.answer
