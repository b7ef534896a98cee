use Rattle.sv_core.proofs.Prelude.{◌<◌, length, sym, subst, AreBelow}
use Rattle.sv_core.proofs.SpareLemmas.{last_below}
use Rattle.sv_core.proofs.table.put_down.Goals as goal

pub index_mut-requires : goal.index_mut-requires
index_mut-requires c =
    let n = length c.args.states.now.items in
    subst (λ m. c.in-Some.place < m) (sym c.args.states.now.ok.0) (last_below n c.pop.new.self.items c.in-Some.place (subst (AreBelow n) c.in-Some.ensures.items c.requires.below))
