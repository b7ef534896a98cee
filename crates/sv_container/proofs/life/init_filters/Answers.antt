use Rattle.sv_container.proofs.Prelude.{◌<◌, length, FilterKeeps, IsInitialised}
use Rattle.sv_container.proofs.LoopLemmas.{one_more}
use Rattle.sv_container.proofs.life.init_filters.Goals as goal

pub loop-at-preserved : goal.loop-at-preserved
loop-at-preserved g c =
    let h : c.loop-at.at < length c.args.all.now.items = rw c.args.all.now.ok.0 at (rw c.len-at-end.ensures at c.loop-at-test.true) in
    one_more (IsInitialised g.F.Filter.filtering g.F.Filter.filter_phase FilterKeeps) _ _ _ _ _ h c.index_mut.ensures.value c.init_filter.ensures c.loop-at.invariant
