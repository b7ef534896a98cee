use Rattle.sv_config.proofs.Prelude.{append_assoc}
use Rattle.sv_config.specs.Place.{placed_singles}
use Rattle.sv_config.proofs.placed.add_singles.Goals as goal

pub returns : goal.returns
unfolding placed_singles
returns c = rw (c.in_ok-add_single-3.ensures, c.in_ok-add_single-2.ensures, c.in_ok-add_single.ensures) (simp (append_assoc))
