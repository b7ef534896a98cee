use Rattle.sv_config.proofs.Prelude.{append_assoc}
use Rattle.sv_config.specs.Place.{placed_arrays}
use Rattle.sv_config.proofs.placed.add_arrays.Goals as goal

pub returns : goal.returns
unfolding placed_arrays
returns c =
    rw (c.in_ok-add_array-6.ensures, c.in_ok-add_array-5.ensures, c.in_ok-add_array-4.ensures, c.in_ok-add_array-3.ensures, c.in_ok-add_array-2.ensures, c.in_ok-add_array.ensures)
    (simp (append_assoc))
