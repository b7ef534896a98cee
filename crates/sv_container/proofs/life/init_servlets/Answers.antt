use Rattle.sv_container.proofs.Prelude.{◌<◌, length, ServletKeeps, IsInitialised}
use Rattle.sv_container.proofs.LoopLemmas.{one_more}
use Rattle.sv_container.proofs.life.init_servlets.Goals as goal

pub loop-at-preserved : goal.loop-at-preserved
loop-at-preserved g c =
    let h : c.loop-at.at < length c.args.all.now.items = rw c.args.all.now.ok.0 at (rw c.len-at-end.ensures at c.loop-at-test.true) in
    one_more (IsInitialised g.S.Servlet.serves g.S.Servlet.servlet_phase ServletKeeps) _ _ _ _ _ h c.index_mut.ensures.value c.init_servlet.ensures c.loop-at.invariant
