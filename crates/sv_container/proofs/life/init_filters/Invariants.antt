use Rattle.sv_container.proofs.Prelude.{FilterKeeps, IsInitialised}
use Rattle.sv_container.proofs.LoopLemmas.{Changed}
use Rattle.sv_container.proofs.life.init_filters.Given as goal

abbrev pub invariant-loop-at : goal.invariant-loop-at
invariant-loop-at g l = Changed (IsInitialised g.F.Filter.filtering g.F.Filter.filter_phase FilterKeeps) l.fn.all.items l.all.items l.at
