use Rattle.sv_config.proofs.Prelude.{append_assoc, map-append}
use Rattle.sv_config.specs.Place.{placed_in}
use Rattle.sv_config.proofs.placed.add_context.Goals as goal

pub returns : goal.returns
unfolding placed_in
returns c =
    rw (c.in_ok-add_singles.ensures, c.in_ok-add_arrays.ensures, c.in_ok-push.ensures.items) (simp (map-append, append_assoc))
