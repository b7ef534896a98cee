use Rattle.sv_container.proofs.Prelude.{ServletKeeps, IsInitialised}
use Rattle.sv_container.proofs.LoopLemmas.{Changed}
use Rattle.sv_container.proofs.life.init_servlets.Given as goal

abbrev pub invariant-loop-at : goal.invariant-loop-at
invariant-loop-at g l = Changed (IsInitialised g.S.Servlet.serves g.S.Servlet.servlet_phase ServletKeeps) l.fn.all.items l.all.items l.at
