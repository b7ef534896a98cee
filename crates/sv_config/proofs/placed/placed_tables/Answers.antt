use Rattle.sv_config.proofs.Prelude.{refl}
use Rattle.sv_config.specs.Place.{placed_tables}
use Rattle.sv_config.proofs.placed.placed_tables.Goals as goal

pub returns : goal.returns
unfolding placed_tables
returns c =
    rw (c.in_ok-add_contexts.ensures, c.in_ok-add_cluster.ensures, c.in_ok-tables.ensures.items, c.deref.ensures.value, c.in_ok-contexts.ensures) refl
